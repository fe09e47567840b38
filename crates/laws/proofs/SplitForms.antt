-- Diamond and tails in one form: the shape of the middles is tested, then what they share.
-- Assumes nothing.
use Prim.Native.Nat.{ℕ}
use mathlib.Core.Path.{◌≡◌, ap}
use mathlib.Core.Bool.{Bool, true, ◌&&◌, ◌||◌}
use mathlib.Core.Option.{Option, none, some}
use mathlib.Core.List.{List, map}
use lib.Dec.{leb}
use lib.ListN.{length, drop}
use Rattle.defs.specs.Lists.{given, head_or, common_prefix, common_suffix}
use Rattle.defs.specs.SeqGraph.{Graph, vertex_sequence, outgoing_nodes, apply_change}
use Rattle.defs.specs.Rewrites.{non_empty, split_and_update, shared_prefix, shared_suffix, bottom_of, is_diamond, merges_diamond, diamond_change}
use Rattle.defs.specs.Rewrites.{try_merge_diamond, is_tails, merges_tails, tails_change, try_merge_tails}
use Rattle.laws.proofs.ListLaws.{given-some, and_split}

-- the change of `split_and_update`, where what the middles share is wanted
unfoldable pub split_of : Graph → ℕ → Option ℕ → List ℕ → (List ℕ → List ℕ → Bool) → Option Graph
split_of g top bottom mids wanted =
    let seqs = map (vertex_sequence g) mids in
    let prefix = common_prefix seqs in
    let suffix = common_suffix (map (drop (length prefix)) seqs) in
    given (wanted prefix suffix) (apply_change g (split_and_update g top bottom mids prefix suffix))

given_is : {A : Type 0} (b : Bool) (a x : A) → b ≡ true → a ≡ x → given b a ≡ some x
unfolding given
given_is b a x t e = rw t (ap some e)

pub diamond-parts : (g g' : Graph) (top : ℕ) → try_merge_diamond g top ≡ some g'
    → (is_diamond g (outgoing_nodes g top) (head_or 0 (outgoing_nodes g (head_or 0 (outgoing_nodes g top)))) ≡ true)
    × (split_of g top (some (head_or 0 (outgoing_nodes g (head_or 0 (outgoing_nodes g top))))) (outgoing_nodes g top) (λ p s. non_empty p || non_empty s) ≡ some g')
unfolding try_merge_diamond merges_diamond diamond_change bottom_of shared_prefix shared_suffix split_of
diamond-parts g g' top did =
    let h = given-some _ _ g' did in
    let k = and_split _ _ h.0 in
    (k.0, given_is _ _ g' k.1 h.1)

pub tails-parts : (least : ℕ) (g g' : Graph) (top : ℕ) → try_merge_tails least g top ≡ some g'
    → (is_tails g (outgoing_nodes g top) ≡ true) × (split_of g top none (outgoing_nodes g top) (λ p s. leb least (length s)) ≡ some g')
unfolding try_merge_tails merges_tails tails_change shared_prefix shared_suffix split_of
tails-parts least g g' top did =
    let h = given-some _ _ g' did in
    let k = and_split _ _ h.0 in
    (k.0, given_is _ _ g' k.1 h.1)
