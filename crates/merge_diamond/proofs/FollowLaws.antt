-- The followers of a vertex, collected: what splitting them asks. Assumes nothing.
use mathlib.Core.Path.{◌≡◌, refl, sym, ap, ◌∙◌, subst}
use mathlib.Core.Bool.{Bool, false}
use mathlib.Core.List.Memᴰ
use mathlib.Core.List.{List, [], ◌∷◌, map, Memᴰ}
use Prim.Native.Nat.{ℕ, ◌+◌, ◌-◌, ◌≤◌, ◌<◌}
use native.Mathlib.Omega.{arith}
use lib.ListN.{length, get_or, drop}
use Rattle.defs.specs.Lists.{head_or, common_prefix, common_suffix}
use Rattle.defs.specs.SeqGraph.{Graph, vertex_sequence, outgoing_nodes}
use Rattle.defs.specs.Rewrites.{shared_prefix, shared_suffix}
use Rattle.laws.proofs.ListLaws.{by_order, of-keep_if}
use Rattle.tabs.proofs.Tabs.{get_or-tab, tab-ext}
use Rattle.tabs.proofs.ListTabs.{mem-tab, of-mem-tab}
use Rattle.tabs.proofs.SumTabs.{map-tab}
use Rattle.store.specs.Store.{seq_in, seqs_in, nums_in, EndsBelow}
use Rattle.store.proofs.VertexLaws.{part-long}
use Rattle.compact.specs.Compact.{Below}
use Rattle.index.specs.Index.{Index, edge_end, incident_edges, at_from, pair_at, Indexed, Collected}
use Rattle.index.proofs.AdjLaws.{at_head, at-step, at-end}
use Rattle.index.proofs.IndexLaws.{outgoing-is}
use Rattle.memory.specs.Memory.{graph_of, Room, Holds}
use Rattle.memory.specs.declared.Held.{Held}
use Rattle.memory.proofs.RoomLaws.{held-vertices, held-edges, held-ends}
use Rattle.shared.specs.Shared.{Parts, start_at, len_at, seqs_at, Prefix, Suffix}
use Rattle.shared.proofs.SharedLoops.{in-pool}
use Rattle.split_and_update.specs.Split.{Middle, prefix_at, suffix_at, update_change, Splittable}
use Rattle.merge_diamond.proofs.GrownLaws.{GraphGrown}

pub record Follows (h : Held) (es vs p heads nexts nodes mp : List ℕ) (top c : ℕ) : Type 0 where
  pub room : Room es vs p heads nexts nodes mp
  pub holds : Holds h es vs p heads nexts
  pub index : Indexed h.m h.n es heads nexts
  pub top-old : top < h.n
  pub found : Collected 0 h.m es top c nodes

module _ {h : Held} {es vs p heads nexts nodes₀ mp : List ℕ} {top : ℕ} (R : Room es vs p heads nexts nodes₀ mp) (H :
    Holds h es vs p heads nexts) (I : Indexed h.m h.n es heads nexts) (T : top < h.n) where
  pub collectable : (top < h.n) × ((0 ≤ 1) × ((h.m ≤ length nodes₀) × Indexed h.m h.n es heads nexts))
  collectable = (T, (omega arith, (omega (arith, held-edges H, R.nodes-room), I)))

  pub follows : {c : ℕ} {nodes : List ℕ} → length nodes ≡ length nodes₀ → Collected 0 h.m es top c nodes → Follows h es vs p heads nexts nodes mp top c
  follows q C = record {
    room = record {
      es-room = R.es-room;
      vs-room = R.vs-room;
      p-room = R.p-room;
      nodes-room = omega (arith, R.nodes-room);
      map-room =
          R.map-room;
      vertices-edges = R.vertices-edges;
      small = R.small;
    };
    holds = H;
    index = I;
    top-old = T;
    found = C;
  }

at-below : (off m : ℕ) (es : List ℕ) (v e : ℕ) → Memᴰ e (incident_edges (edge_end off es) m v) → e < m
at-below off m es v e k = let b = of-mem-tab (m - 0) (λ (x : ℕ). x) (of-keep_if _ _ k).0 in omega (arith, b.1, b.2)

first_below : (n : ℕ) (f : ℕ → ℕ) (l : List ℕ) → 0 < n → ((e : ℕ) → Memᴰ e l → f e < n) → head_or 0 (map f l) < n
unfolding head_or
first_below n f [] z h = z
first_below n f (e ∷ l) z h = h e (Memᴰ.head refl)

module _ {h : Held} {es vs p heads nexts nodes mp : List ℕ} {top c : ℕ} (F : Follows h es vs p heads nexts nodes mp top c) where
  abbrev n : ℕ
  n = h.n

  abbrev m : ℕ
  m = h.m

  abbrev g : Graph
  g = graph_of h es vs p

  pub nodes-are : nums_in c nodes ≡ outgoing_nodes g top
  nodes-are = F.found.is ∙ sym (outgoing-is h.k.0 n m es vs p top)

  ends : EndsBelow n m es
  ends = held-ends F.holds

  below : (i : ℕ) → i < c → get_or nodes i 0 < n
  below i b =
      let a = Memᴰ.of_map (edge_end 1 es) (incident_edges (edge_end 0 es) m top) (subst (λ (l : List ℕ). Memᴰ (get_or nodes i 0) l) F.found.is
      (mem-tab c (λ (j : ℕ). get_or nodes j 0) i b)) in
      omega (arith, (ends.at a.0 (at-below 0 m es top a.0 a.1)).1, a.2)

  pub bottom-below : (v : ℕ) → head_or 0 (map (edge_end 1 es) (incident_edges (edge_end 0 es) m v)) < n
  bottom-below v = first_below n (edge_end 1 es) (incident_edges (edge_end 0 es) m v) (omega (arith, F.top-old)) (λ e k. (ends.at e (at-below 0 m es v e k)).1)

  pub nodes-below : Below nodes c n
  nodes-below = record { room = omega (arith, F.found.most, held-edges F.holds, F.room.nodes-room); at = below }

  pub first-node : 1 ≤ c → get_or nodes 0 0 < n
  first-node b = below 0 (omega arith)

  pub parts : 1 ≤ c → Parts n vs p nodes c
  parts b = record {
    vs-room = omega (arith, held-vertices F.holds, F.room.vs-room);
    within = record { at = λ v k. omega (arith, F.holds.within.at v k, F.holds.used-room, F.room.p-room) };
    room = nodes-below.room;
    below = below;
    some = b;
  }

  -- one edge in: the index has it
  middle : (v : ℕ) → v < n → length (incident_edges (edge_end 1 es) m v) ≡ 1 → Middle m es heads v
  middle v b one = record {
    first = here;
    into = into ∙ ap (λ (l : List ℕ). e₁ ∷ l) rest;
    out = λ k. (
      at_from (edge_end 0 es) m v (pair_at 0 nexts e₀),
      at_head (edge_end 0 es) m n (pair_at 0 heads) (pair_at 0 nexts) v I₀ b
          ∙ at-step (edge_end 0 es) m n (pair_at 0 heads) (pair_at 0 nexts) v e₀ I₀ k ((I₀.heads v b).hit k),
    );
    end = λ k. at_head (edge_end 0 es) m n (pair_at 0 heads) (pair_at 0 nexts) v I₀ b ∙ at-end (edge_end 0 es) m v e₀ k;
  }
    where
      e₀ : ℕ
      e₀ = pair_at 0 heads v

      e₁ : ℕ
      e₁ = pair_at 1 heads v

      I₀ : Index (edge_end 0 es) m n (pair_at 0 heads) (pair_at 0 nexts)
      I₀ = F.index.index 0 (omega arith)

      I₁ : Index (edge_end 1 es) m n (pair_at 1 heads) (pair_at 1 nexts)
      I₁ = F.index.index 1 (omega arith)

      from : incident_edges (edge_end 1 es) m v ≡ at_from (edge_end 1 es) m v e₁
      from = at_head (edge_end 1 es) m n (pair_at 1 heads) (pair_at 1 nexts) v I₁ b

      here : e₁ < m
      here = by_order m e₁ (λ (k : m ≤ e₁). absurd (omega (arith, one, ap length from, ap length (at-end (edge_end 1 es) m v e₁ k)))) (λ (k : e₁ < m). k)

      into : incident_edges (edge_end 1 es) m v ≡ e₁ ∷ at_from (edge_end 1 es) m v (pair_at 1 nexts e₁)
      into = from ∙ at-step (edge_end 1 es) m n (pair_at 1 heads) (pair_at 1 nexts) v e₁ I₁ here ((I₁.heads v b).hit here)

      none_left : (l : List ℕ) → length l ≡ 0 → l ≡ []
      none_left [] z = refl
      none_left (x ∷ l) z = absurd (omega arith)

      rest : at_from (edge_end 1 es) m v (pair_at 1 nexts e₁) ≡ []
      rest = none_left (at_from (edge_end 1 es) m v (pair_at 1 nexts e₁)) (omega (arith, one, ap length into))

  seqs-are : map (vertex_sequence g) (nums_in c nodes) ≡ seqs_at vs p nodes c
  unfolding vertex_sequence
  seqs-are = map-tab (vertex_sequence g) c (λ (i : ℕ). get_or nodes i 0)
      ∙ tab-ext c (λ (i : ℕ). get_or (seqs_in n vs p) (get_or nodes i 0) []) (λ (i : ℕ). seq_in vs p (get_or nodes i 0)) (λ i b.
      get_or-tab n (seq_in vs p) (get_or nodes i 0) [] (below i b))

  module _ {x y : ℕ} (s : 1 ≤ c) (X : Prefix vs p nodes c x) (Y : Suffix vs p nodes x c y) where
    inside : start_at vs nodes 0 + len_at vs nodes 0 ≤ length p
    inside = in-pool (parts s) 0 (omega arith)

    pub length-prefix : length (prefix_at vs p nodes x) ≡ x
    length-prefix = part-long p (start_at vs nodes 0) x (omega (arith, inside, X.all 0 (omega arith)))

    pub length-suffix : length (suffix_at vs p nodes y) ≡ y
    length-suffix = part-long p (start_at vs nodes 0 + len_at vs nodes 0 - y) y (omega (arith, inside, Y.all 0 (omega arith)))

    pub prefix-is : shared_prefix g (nums_in c nodes) ≡ prefix_at vs p nodes x
    unfolding shared_prefix
    prefix-is = ap common_prefix seqs-are ∙ X.is

    pub suffix-is : shared_suffix g (nums_in c nodes) ≡ suffix_at vs p nodes y
    unfolding shared_suffix
    suffix-is = (λ i. common_suffix (map (drop ((ap length prefix-is ∙ length-prefix) i)) (seqs-are i))) ∙ Y.is

    pub splittable : (bottom : ℕ) (ends? : Bool) (g' : Graph) → bottom < n → (ends? ≡ false → bottom ≡ 0) → 0 < x + y
        → ((i : ℕ) → i < c → length (incident_edges (edge_end 1 es) m (get_or nodes i 0)) ≡ 1)
        → GraphGrown g (update_change g top ends? bottom vs p nodes c x y) g' heads nexts → Splittable h es vs p heads nodes c mp top bottom ends? x y
    splittable bottom ends? g' b z some one G = record {
      parts = parts s;
      middles = λ i k. middle (get_or nodes i 0) (below i k) (one i k);
      heads-room = F.index.heads-room;
      long = λ i k. omega (arith, Y.all i k);
      some = some;
      bounds = ends;
      top-old = F.top-old;
      bottom-old = b;
      no-bottom = z;
      within = F.holds.within;
      used-small = omega (arith, F.holds.used-room, F.room.vertices-edges, F.room.small);
      es-room = omega (arith, G.edges, F.room.es-room);
      vs-room = omega (arith, G.vertices, F.room.vs-room);
      mp-room = omega (arith, G.vertices, F.room.map-room);
      small = omega (arith, G.vertices, F.found.most, held-edges F.holds, F.room.vertices-edges, F.room.small);
    }

  pub bottom-first : {b : ℕ} → b ≡ head_or 0 (map (edge_end 1 es) (incident_edges (edge_end 0 es) m (get_or nodes 0 0))) → b < n
  bottom-first q = omega (arith, bottom-below (get_or nodes 0 0))

  pub sum-small : {x y : ℕ} → 1 ≤ c → Suffix vs p nodes x c y → x + y < 4294967296
  sum-small s Y = omega (
    arith,
    Y.all 0 (omega arith),
    F.holds.within.at (get_or nodes 0 0) (below 0 (omega arith)),
    F.holds.used-room,
    F.room.vertices-edges,
    F.room.small,
  )
