-- What cleanup leaves. Assumes nothing.
use Rattle.std.specs.Prelude.{◌≡◌, List, ℕ}
use Rattle.std.proofs.Math.Option.{Option}
use Rattle.defs.specs.Cleanup.{Status, just_reference, some_variation, Cleaned, after_choice, cleanup_seq_graph}
use Rattle.memory.specs.Memory.{graph_of, work_of, Holds}
use Rattle.memory.specs.declared.Held.{Held}
use Rattle.memory.specs.declared.Work.{Work}
use Rattle.cleanup_steps.specs.declared.CleanedUp.{CleanedUp}
use Rattle.cleanup_steps.specs.declared.SeqGraphCleanupStatus.{SeqGraphCleanupStatus}
use Rattle.cleanup_steps.specs.declared.SeqGraphCleanupStatus.TheVariants.{AssembledSomeVariation, JustAssembledReference}

-- how a cleanup ended
abbrev pub cleanup_status_of : SeqGraphCleanupStatus → Status
cleanup_status_of AssembledSomeVariation = some_variation
cleanup_status_of JustAssembledReference = just_reference

-- the graph of the choice as the answer
abbrev pub uncleaned : Work → CleanedUp
uncleaned w = record { held = w.held; status = JustAssembledReference; rewrites = w.rewrites }

-- the answer r, with the graph in the slices, is the definition's c
pub record CleanedTo (c : Cleaned) (r : CleanedUp) (es vs p : List ℕ) : Type 0 where
  pub graph : graph_of r.held es vs p ≡ c.graph
  pub status : cleanup_status_of r.status ≡ c.status
  pub rewrites : r.rewrites ≡ c.rewrites

-- from the graph of the choice and what was chosen
pub record After (w : Work) (a b : Option ℕ) (es vs p heads nexts : List ℕ) (r : CleanedUp) (es' vs' p' : List ℕ) : Type 0 where
  pub answers : CleanedTo (after_choice (work_of w es vs p) a b) r es' vs' p'
  pub holds : Holds r.held es' vs' p' heads nexts

-- the answer is that of the whole cleanup
pub record CleanUp (h : Held) (es vs p heads nexts : List ℕ) (r : CleanedUp) (es' vs' p' : List ℕ) : Type 0 where
  pub answers : CleanedTo (cleanup_seq_graph (graph_of h es vs p)) r es' vs' p'
  pub holds : Holds r.held es' vs' p' heads nexts
