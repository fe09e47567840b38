-- The bytes of the reference path are told. Assumes nothing.
use mathlib.Core.Path.{◌≡◌, sym, ap, ◌∙◌}
use mathlib.Core.Option.{Option, some}
use mathlib.Core.List.{List}
use Prim.Native.Nat.{ℕ}
use native.Mathlib.Omega.{arith}
use lib.ListN.{length}
use Rattle.defs.specs.SeqGraph.{Graph}
use Rattle.defs.specs.Cleanup.{reference_sink_vertex}
use Rattle.defs.specs.Paths.{reference_path, reference_between, spelled_by, reference_path_bytes}
use Rattle.store.specs.Store.{nums_in}
use Rattle.compact.proofs.CompactLaws.{order-in}
use Rattle.memory.specs.Memory.{graph_of}
use Rattle.memory.specs.declared.Held.{Held}
use Rattle.refs.specs.Refs.{FirstSource, FirstSink}
use Rattle.refs.proofs.RefLaws.{source-found, source-missing, source-below, sink-found, sink-missing}
use Rattle.spell.specs.Spell.{spelled_in, Answered, Told}
use Rattle.std.specs.Prelude.{Some, None}
use Rattle.std.specs.Prelude as std
use Rattle.spell.proofs.SpellLaws.{told_none, told-some, answered-as}
use Rattle.paths.specs.Paths.{Spellable}
use Rattle.paths.proofs.RouteLaws.{Route, route-spelled}
use Rattle.reference.specs.Reference.{path_of, PathWalked}
use Rattle.reference.proofs.WalkLaws.{reference-begun}

module _ {h : Held} {es vs p nodes : List ℕ} (S : Spellable h es vs p nodes) {a : std.Option ℕ} (A : FirstSource h.m h.n es a) where
  abbrev g : Graph
  g = graph_of h es vs p

  pub no_source : (out : List ℕ) → a ≡ None → Told (reference_path_bytes g) out None out
  unfolding reference_path_bytes reference_between spelled_by
  no_source out q = told_none out (ap (λ (o : Option ℕ). spelled_by g (reference_between g o (reference_sink_vertex g)))
      (source-missing A q h.k.0 vs p))

  module _ {s : ℕ} (q : a ≡ Some s) {b : std.Option ℕ} (T : FirstSink h.m h.n es b) where
    pub no-sink : (out : List ℕ) → b ≡ None → Told (reference_path_bytes g) out None out
    unfolding reference_path_bytes reference_between spelled_by
    no-sink out z = told_none out
        (λ i. spelled_by g (reference_between g (source-found A q h.k.0 vs p i) (sink-missing T z h.k.0 vs p i)))

    module _ {t : ℕ} (z : b ≡ Some t) where
      bytes-are : reference_path_bytes g ≡ spelled_by g (reference_path h.n g t s)
      unfolding reference_path_bytes reference_between
      bytes-are = (λ i. spelled_by g (reference_between g (source-found A q h.k.0 vs p i) (sink-found T z h.k.0 vs p i)))
          ∙ ap (λ (x : ℕ). spelled_by g (reference_path x g t s)) (order-in h.k.0 h.n h.m es vs p)

      module _ {r : std.Option ℕ} {nodes' : List ℕ} (W : PathWalked h.m h.n es s t r nodes') where
        path-is : {o : Option (List ℕ)} → path_of r nodes' ≡ o → reference_path h.n g t s ≡ o
        path-is e = sym (W.is h.k.0 vs p S.sound) ∙ e

        pub no_walk : (out : List ℕ) → r ≡ None → Told (reference_path_bytes g) out None out
        unfolding spelled_by
        no_walk out e = told_none out (bytes-are ∙ ap (spelled_by g) (path-is (ap (λ (x : std.Option ℕ). path_of x nodes') e)))

        module _ {c : ℕ} (e : r ≡ Some c) (len : length nodes' ≡ length nodes) where
          walked-is : reference_path h.n g t s ≡ some (nums_in c nodes')
          walked-is = path-is (ap (λ (x : std.Option ℕ). path_of x nodes') e)

          pub walked-route : Route g nodes' c
          walked-route =
              let r = reference-begun g S.sound.bounded h.n t s (nums_in c nodes')
              (omega (arith, source-below A q, order-in h.k.0 h.n h.m es vs p)) walked-is in
              record { first = s; others = r.0; path = r.2; is = r.1; room = omega (arith, W.most c e, S.nodes-room) }

          pub walked-told : {l : ℕ} {out out' : List ℕ} → Answered (spelled_in vs p nodes' c) out l out'
              → Told (reference_path_bytes g) out (Some l) out'
          unfolding spelled_by
          walked-told X = told-some (bytes-are ∙ ap (spelled_by g) walked-is) (answered-as (route-spelled S walked-route) X)
