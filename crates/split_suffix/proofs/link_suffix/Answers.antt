-- `split_suffix::link_suffix` meets its contract.
use mathlib.Core.Path.{ap, ◌∙◌}
use Rattle.defs.specs.Lists.{bit}
use Rattle.split_suffix.proofs.EdgeLoops.{links-two, links-one}
use Rattle.split_suffix.proofs.link_suffix.Goals as goal

pub returns-then-prefix : goal.returns-then-prefix
returns-then-prefix c =
    links-two c.requires c.if-prefix.true (c.new_flag-flag.ensures ∙ ap bit c.flag_is_ref.ensures) c.put_edge.ensures c.put_edge-then-prefix.ensures

pub returns : goal.returns
returns c =
    links-one c.requires c.if-prefix.false c.put_edge-2.ensures
