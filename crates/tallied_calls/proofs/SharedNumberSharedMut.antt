-- A public call `f(rec: &[..], number: u32, list: &[..], out: &mut [..], caller: u32, table: &mut Tallies)` that is its core, on all but the
-- table, and then `tallies::count_call`: SharedMut.antt, with a number and a second shared slice between the two. Assumes nothing.
use Rattle.std.specs.Prelude.{List, ℕ}
use Rattle.tallies.specs.Raises.{counted, Raises}
use Rattle.tallies.specs.declared.Tallies.{Tallies}
use Rattle.tallied_calls.proofs.Kind.{Kind}

module _ (k : Kind) where
  -- of the parameters and the caller: the core's struct and the output at exit; the answer, the output at exit, the table and the table at exit
  abbrev pub Promise : Type 1
  Promise = List ℕ → ℕ → List ℕ → List ℕ → ℕ → k.core → List ℕ → Type 0

  abbrev pub Public : Type 1
  Public = List ℕ → ℕ → List ℕ → List ℕ → ℕ → k.answer → List ℕ → Tallies → Tallies → Type 0

  pub call-meets : (P : Promise) (Q : Public)
      → ((rec : List ℕ) (n : ℕ) (list out : List ℕ) (c : ℕ) (d : k.core) (out' : List ℕ) (h h' : Tallies) → P rec n list out c d out'
      → Raises (counted c (k.number d) (k.rewrites d)) h h' → Q rec n list out c (k.result d) out' h h')
      → (rec : List ℕ) (n : ℕ) (list out : List ℕ) (c : ℕ) (d : k.core) (out' : List ℕ) (h h' : Tallies) → P rec n list out c d out'
      → Raises (counted c (k.number d) (k.rewrites d)) h h' → Q rec n list out c (k.result d) out' h h'
  call-meets P Q keeps = keeps
