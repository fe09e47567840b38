-- When each of the causes that a graph tells is absent, and that 3 decides where all others are. Assumes nothing.
use Prim.Native.Nat.{ℕ, ◌≤◌}
use mathlib.Core.Path.{◌≡◌, refl, ap, ◌∙◌}
use mathlib.Core.Bool.{Bool, true, false, cond, not, ◌||◌}
use mathlib.Core.List.{List, [], ◌∷◌, Memᴰ}
use lib.ListN.{length}
use borrow.Author.Tests.{eq-eqb, le-ltb, lt-leb}
use Rattle.defs.specs.Lists.{any_of}
use Rattle.defs.specs.Forms.{Form}
use Rattle.defs.specs.SeqGraph.{Edge, Graph, node_count, has_ends}
use Rattle.defs.specs.Record.{RecordKind, kmer_graph, sequence_graph, record_kind_number}
use Rattle.defs.specs.Refusals.{Takes, takes_kind, doubled_edge, equal_kmers, has_cycle, refusal_of}
use Rattle.laws.proofs.Walks.{by_test}
use Rattle.laws.proofs.ListLaws.{clash}
use Rattle.laws.proofs.Edges.{joins-ends}
use Rattle.laws.proofs.Counts.{Single}
use Rattle.laws.proofs.Nets.{Bounded}
use Rattle.laws.proofs.Cycles.{any_of-true}
use Rattle.sound.specs.Alike.{SameKmers}
use Rattle.sound.proofs.Accepted.{equal-same}
use Rattle.reread.specs.GraphCauses.{wrong_kind, graph_past_limit, other_kmers, ends_past, graph_doubled, graph_layout_causes, graph_causes}

-- no member passes
none_of : {A : Type 0} (p : A → Bool) (l : List A) → ((x : A) → Memᴰ x l → p x ≡ false) → any_of p l ≡ false
none_of p l h = by_test (any_of p l) (λ t. let x = any_of-true p l t in clash x.2 (h x.0 x.1)) (λ t. t)

neither : (a b : Bool) → a ≡ false → b ≡ false → (a || b) ≡ false
neither a b f g = rw (f, g)

-- 2
module _ (t : Takes) (status : ℕ) (s : status ≤ 2) where
  pub kind-right : (kind : RecordKind) → takes_kind t (record_kind_number kind) ≡ true → (record_kind_number kind ≡ 0 → status ≡ 0) → wrong_kind t kind status ≡ false
  unfolding wrong_kind record_kind_number
  kind-right kmer_graph k z = λ i. not (k i) || (le-ltb 2 status s i || not (eq-eqb status 0 (z refl) i))
  kind-right sequence_graph k z = λ i. not (k i) || (le-ltb 2 status s i || false)

module _ (g : Graph) where
  -- 4
  pub kmers-right : (kind : RecordKind) → (record_kind_number kind ≡ 0 → (s : List ℕ) → Memᴰ s g.verts → length s ≡ g.k) → other_kmers kind g ≡ false
  unfolding other_kmers record_kind_number
  kmers-right kmer_graph h = none_of _ g.verts (λ s m. ap not (eq-eqb (length s) g.k (h refl s m)))
  kmers-right sequence_graph h = refl

  -- 5
  pub ends-right : Bounded g → ends_past g ≡ false
  unfolding ends_past
  ends-right b = none_of _ g.edges (λ (e : Edge) m.
      neither _ _ (lt-leb (node_count g) e.from (b e m).0) (lt-leb (node_count g) e.to (b e m).1))

-- 6
single-undoubled : (es : List Edge) → Single es → doubled_edge es ≡ false
unfolding doubled_edge
single-undoubled [] s = refl
single-undoubled (e ∷ es) s = neither (any_of (has_ends e.from e.to) es) (doubled_edge es) (none_of (has_ends e.from e.to) es alone)
    (single-undoubled es s.1)
  where
    alone : (d : Edge) → Memᴰ d es → has_ends e.from e.to d ≡ false
    alone d m = by_test (has_ends e.from e.to d) (λ t. let q = joins-ends e.from e.to d t in absurd (s.0 (d, m, q.0, q.1))) (λ t. t)

pub doubled-right : (g : Graph) → Single g.edges → (kind : RecordKind) → (record_kind_number kind ≡ 0 → SameKmers g → ⊥) → graph_doubled kind g ≡ false
unfolding graph_doubled record_kind_number
doubled-right g s kmer_graph d =
    neither _ _ (single-undoubled g.edges s) (by_test (equal_kmers g.verts) (λ t. absurd (d refl (equal-same g t))) (λ t. t))
doubled-right g s sequence_graph d = neither _ _ (single-undoubled g.edges s) refl

-- where the six others are absent, 3 decides
module _ (f : Form) (t : Takes) (kind : RecordKind) (status : ℕ) (g : Graph) where
  only-three : (p : Bool)
      → refusal_of (
      record { number = 1; present = false }
      ∷ record { number = 2; present = false }
      ∷ record { number = 3; present = p }
      ∷ record { number = 4; present = false }
      ∷ record { number = 5; present = false }
      ∷ record { number = 6; present = false }
      ∷ record { number = 7; present = false }
      ∷ []
      )
      ≡ cond p 3 0
  unfolding refusal_of
  only-three true = refl
  only-three false = refl

  pub three-decides : wrong_kind t kind status ≡ false → other_kmers kind g ≡ false → ends_past g ≡ false → graph_doubled kind g ≡ false
      → has_cycle g ≡ false → refusal_of (graph_causes f t kind status g) ≡ cond (graph_past_limit f kind g) 3 0
  unfolding graph_causes graph_layout_causes
  three-decides b d e h c =
      (λ i. refusal_of (
      record { number = 1; present = false }
      ∷ record { number = 2; present = b i }
      ∷ record { number = 3; present = graph_past_limit f kind g }
      ∷ record { number = 4; present = d i }
      ∷ record { number = 5; present = e i }
      ∷ record { number = 6; present = h i }
      ∷ record { number = 7; present = c i }
      ∷ []
      ))
      ∙ only-three (graph_past_limit f kind g)
