-- `rewriting::status_number` meets its contract.
use mathlib.Core.Path.{sym, ap}
use Rattle.defs.specs.Cleanup.{status_number}
use Rattle.cleanup_steps.specs.CleanUp.{cleanup_status_of}
use Rattle.cleanup_steps.specs.declared.SeqGraphCleanupStatus.{SeqGraphCleanupStatus}
use Rattle.rewriting.proofs.status_number.Goals as goal

pub returns-in-JustAssembledReference : goal.returns-in-JustAssembledReference
unfolding status_number
returns-in-JustAssembledReference c = sym (ap (λ (s : SeqGraphCleanupStatus). status_number (cleanup_status_of s)) c.in-JustAssembledReference.is)

pub returns-in-AssembledSomeVariation : goal.returns-in-AssembledSomeVariation
unfolding status_number
returns-in-AssembledSomeVariation c = sym (ap (λ (s : SeqGraphCleanupStatus). status_number (cleanup_status_of s)) c.in-AssembledSomeVariation.is)
