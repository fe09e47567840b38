-- `paths::is_edge_path` meets its contract.
use mathlib.Core.Path.{sym, ◌∙◌}
use borrow.Author.Tests.{eq-eqb, ne_eqb}
use Rattle.tabs.proofs.Tabs.{and_then, and-else}
use Rattle.paths.proofs.StepLaws.{first-two, path-outside, following-end, following-no, following-more}
use Rattle.paths.proofs.is_edge_path.Goals.{then-a-at-via-then-a-at, then-a-at-via-else-a-at+then-not-has_edge}
use Rattle.paths.proofs.is_edge_path.Goals as goal

pub returns-then-n-start : goal.returns-then-n-start
returns-then-n-start c = path-outside _ _ _ _ _ c.if-n-start.true

pub returns-then-a-at : goal.returns-then-a-at
returns-then-a-at c =
    let pair = first-two c.loop-rest.rest.now c.in-len2-up.len_at_least in elim c.then-a-at.branch [
      | then-a-at-via-then-a-at w ↦ following-no c.loop-rest.invariant pair (sym (and-else _ (ne_eqb _ _ w.if-a-at.true)))
      | then-a-at-via-else-a-at+then-not-has_edge w ↦
          following-no c.loop-rest.invariant pair
          (sym (and_then _ (eq-eqb _ _ w.if-a-at.false)) ∙ sym w.has_edge.ensures ∙ w.if-not-has_edge.true)
    ]

pub loop-rest-preserved : goal.loop-rest-preserved
loop-rest-preserved c =
    following-more c.loop-rest.invariant (first-two c.loop-rest.rest.now c.in-len2-up.len_at_least) c.requires.ends
    (sym (and_then _ (eq-eqb _ _ c.if-a-at.false)) ∙ sym c.has_edge.ensures ∙ c.if-not-has_edge.false)

pub returns : goal.returns
returns c = rw (sym c.is_empty.ensures) at (following-end c.loop-rest.rest.now c.loop-rest.invariant c.in_default.len_below)
