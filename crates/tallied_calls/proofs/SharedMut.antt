-- A public call `f(rec: &[..], out: &mut [..], caller: u32, table: &mut Tallies)` that is its core, on all but the table, and then
-- `tallies::count_call`: one law for every such call. The check walks the code of each call by itself; this is the step from what the core promises
-- and what the table has counted to what the call promises. All that it knows of `count_call` is its contract.
-- Assumes nothing.
use Rattle.std.specs.Prelude.{List, ℕ}
use Rattle.tallies.specs.Raises.{counted, Raises}
use Rattle.tallies.specs.declared.Tallies.{Tallies}
use Rattle.tallied_calls.proofs.Kind.{Kind}

module _ (k : Kind) where
  -- of the parameters and the caller: the core's struct and the output at exit; the answer, the output at exit, the table and the table at exit
  abbrev pub Promise : Type 1
  Promise = List ℕ → List ℕ → ℕ → k.core → List ℕ → Type 0

  abbrev pub Public : Type 1
  Public = List ℕ → List ℕ → ℕ → k.answer → List ℕ → Tallies → Tallies → Type 0

  -- a call whose core keeps the promise P keeps Q, where Q follows from P and from the table that has counted the call
  pub call-meets : (P : Promise) (Q : Public)
      → ((rec out : List ℕ) (c : ℕ) (d : k.core) (out' : List ℕ) (h h' : Tallies) → P rec out c d out'
      → Raises (counted c (k.number d) (k.rewrites d)) h h' → Q rec out c (k.result d) out' h h')
      → (rec out : List ℕ) (c : ℕ) (d : k.core) (out' : List ℕ) (h h' : Tallies) → P rec out c d out'
      → Raises (counted c (k.number d) (k.rewrites d)) h h' → Q rec out c (k.result d) out' h h'
  call-meets P Q keeps = keeps
