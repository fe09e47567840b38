-- What a path spells is at most as long as the graph's sequences together, since it visits no vertex twice. Assumes nothing.
use mathlib.Core.Path.{◌≡◌, refl, sym, ap, ◌∙◌}
use mathlib.Core.Bool.{true}
use mathlib.Core.Option.{Option, none, some, some-injective}
use mathlib.Core.List.{List, [], ◌∷◌, map}
use Prim.Native.Nat.{ℕ, ◌+◌, ◌≤◌, ◌<◌}
use native.Mathlib.Omega.{arith}
use lib.ListN.{length, get_or, length-append}
use Rattle.defs.specs.Lists.{concat}
use Rattle.defs.specs.SeqGraph.{Graph, node_count, vertex_sequence}
use Rattle.defs.specs.Simplify.{sequence_bytes}
use Rattle.defs.specs.Strings.{IsPath, spelled}
use Rattle.defs.specs.Cleanup.{reference_source_vertex, reference_sink_vertex}
use Rattle.defs.specs.Paths.{edge_ends, is_path_of, path_bases_bytes, reference_path, reference_between, spelled_by, reference_path_bytes}
use Rattle.laws.proofs.Measures.{bytes-is}
use Rattle.laws.proofs.Sound.{Sound}
use Rattle.laws.proofs.Whole.{by_option, no-some}
use Rattle.laws.proofs.Cleaned.{source_in}
use Rattle.paths.proofs.RouteLaws.{path-distinct, path-below, path-of}
use Rattle.reference.proofs.WalkLaws.{reference-begun}
use Rattle.laws.proofs.Counts.{total, total_kept}

spelled-length : (g : Graph) (l : List ℕ) → length (concat (map (vertex_sequence g) l)) ≡ total (λ (v : ℕ). length (get_or g.verts v [])) l
unfolding total concat vertex_sequence
spelled-length g [] = refl
spelled-length g (v ∷ l) = length-append (get_or g.verts v []) (concat (map (vertex_sequence g) l))
    ∙ ap (λ (x : ℕ). length (get_or g.verts v []) + x) (spelled-length g l)

module _ (g : Graph) (S : Sound g) where
  spelled-most : (u : ℕ) (ws : List ℕ) → IsPath g u ws → length (spelled g (u ∷ ws)) ≤ sequence_bytes g.verts
  unfolding spelled
  spelled-most u ws path =
      let k = total_kept length [] g.verts (u ∷ ws) (path-distinct g S.rank S.ranks u ws path) (λ v m. unfold node_count in
      (path-below g u ws path v m)) in
      omega (arith, k, bytes-is g.verts, spelled-length g (u ∷ ws))

  pub path-most : (start : ℕ) (list : List ℕ) → is_path_of g start list ≡ true → length (path_bases_bytes g start list) ≤ sequence_bytes g.verts
  unfolding path_bases_bytes
  path-most start list t = spelled-most start (edge_ends list) (path-of g S.bounded start list t)

  by-none : (b : List ℕ) {X : Type 0} → spelled_by g none ≡ some b → X
  unfolding spelled_by
  by-none b e = no-some refl e

  by-some : (ws b : List ℕ) → spelled_by g (some ws) ≡ some b → spelled g ws ≡ b
  unfolding spelled_by
  by-some ws b e = some-injective (spelled g ws) b e

  walked-most : (s t : ℕ) → s < node_count g → (b : List ℕ) → spelled_by g (reference_path (node_count g) g t s) ≡ some b → length b ≤ sequence_bytes g.verts
  walked-most s t below b e = by_option (reference_path (node_count g) g t s)
      (λ q. by-none b (sym (ap (spelled_by g) q) ∙ e))
      (λ ws q. let r = reference-begun g S.bounded (node_count g) t s ws below q in
      let same : spelled g (s ∷ r.0) ≡ b = sym (ap (spelled g) r.1) ∙ by-some ws b (sym (ap (spelled_by g) q) ∙ e) in
      omega (arith, ap length same, spelled-most s r.0 r.2))

  between-most : (s t : Option ℕ) → reference_source_vertex g ≡ s → (b : List ℕ) → spelled_by g (reference_between g s t) ≡ some b
      → length b ≤ sequence_bytes g.verts
  unfolding reference_between
  between-most none t q b e = by-none b e
  between-most (some s) none q b e = by-none b e
  between-most (some s) (some t) q b e = walked-most s t (source_in g s q) b e

  pub reference-most : (b : List ℕ) → reference_path_bytes g ≡ some b → length b ≤ sequence_bytes g.verts
  unfolding reference_path_bytes
  reference-most b e = between-most (reference_source_vertex g) (reference_sink_vertex g) refl b e
