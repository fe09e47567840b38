-- The bytes of a path are told. Assumes nothing.
use mathlib.Core.Path.{◌≡◌, sym, ap, ◌∙◌}
use mathlib.Core.Bool.{Bool, true, false}
use mathlib.Core.List.{List}
use Prim.Native.Nat.{ℕ, ◌<◌}
use native.Mathlib.Omega.{arith}
use lib.ListN.{length}
use Rattle.defs.specs.Lists.{given}
use Rattle.defs.specs.SeqGraph.{Graph}
use Rattle.defs.specs.Strings.{spelled}
use Rattle.defs.specs.Paths.{edge_ends, is_path_of, path_bases_bytes}
use Rattle.laws.proofs.ListLaws.{given_yes, given-no}
use Rattle.compact.proofs.CompactLaws.{order-in}
use Rattle.memory.specs.Memory.{graph_of}
use Rattle.memory.specs.declared.Held.{Held}
use Rattle.spell.specs.Spell.{spelled_in, Answered, Told}
use Rattle.std.specs.Prelude.{Some, None}
use Rattle.spell.proofs.SpellLaws.{told_none, told-some, answered-as}
use Rattle.paths.specs.Paths.{EdgePath, PathNodes, Spellable}
use Rattle.paths.proofs.RouteLaws.{Route, path-of, path-short, route-spelled}

module _ {h : Held} {es vs p nodes : List ℕ} (S : Spellable h es vs p nodes) {start : ℕ} {list : List ℕ} {r : Bool} (E :
    EdgePath h.m h.n es start list r) where
  abbrev g : Graph
  g = graph_of h es vs p

  pub no-path : (out : List ℕ) → r ≡ false → Told (given (is_path_of g start list) (path_bases_bytes g start list)) out None out
  no-path out f = told_none out (given-no _ _ (sym (E.is h.k.0 vs p) ∙ f))

  module _ (t : r ≡ true) where
    is-path : is_path_of g start list ≡ true
    is-path = sym (E.is h.k.0 vs p) ∙ t

    pub path_room : length (edge_ends list) < length nodes
    path_room = omega (
      arith,
      path-short g S.sound start (edge_ends list) (path-of g S.sound.bounded start list is-path),
      order-in
          h.k.0 h.n h.m es vs p,
      S.nodes-room,
    )

    pub path-route : {nodes' : List ℕ} {c : ℕ} → PathNodes start list c nodes' → Route g nodes' c
    path-route N = record { first = start; others = edge_ends list; path = path-of g S.sound.bounded start list is-path; is = N.is; room = N.room }

    pub path-told : {nodes' : List ℕ} {c len : ℕ} {out out' : List ℕ} → PathNodes start list c nodes' → Answered (spelled_in vs p nodes' c) out len out'
        → Told (given (is_path_of g start list) (path_bases_bytes g start list)) out (Some len) out'
    unfolding path_bases_bytes
    path-told N A = told-some (given_yes _ _ is-path) (answered-as (route-spelled S (path-route N) ∙ ap (spelled g) N.is) A)
