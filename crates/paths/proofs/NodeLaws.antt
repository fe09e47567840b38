-- The vertices of a path, written to a slice. Assumes nothing.
use mathlib.Core.Path.{◌≡◌, refl, sym, ap, ◌∙◌}
use mathlib.Core.List.{List, [], ◌∷◌, ◌++◌, append_assoc, append-nil}
use Prim.Native.Nat.{ℕ, ◌+◌, ◌≤◌, ◌<◌}
use native.Mathlib.Omega.{arith}
use lib.ListN.{length, get_or, set, length-set, length-append}
use Rattle.defs.specs.Paths.{edge_ends}
use Rattle.tabs.proofs.Tabs.{length-tab, tab-zero}
use Rattle.store.specs.Store.{nums_in}
use Rattle.index.proofs.IndexLaws.{nums-push}
use Rattle.paths.specs.Paths.{PathNodes}

-- the list is passed up to the rest
pub record Noting (start : ℕ) (list nodes₀ nodes : List ℕ) (c : ℕ) (rest : List ℕ) : Type 0 where
  pub low : c + length rest ≤ length list + 1
  pub len : length nodes ≡ length nodes₀
  pub is : start ∷ edge_ends list ≡ nums_in c nodes ++ edge_ends rest

ends-pair : {rest : List ℕ} (a b : ℕ) (later : List ℕ) → rest ≡ a ∷ b ∷ later → edge_ends rest ≡ b ∷ edge_ends later
unfolding edge_ends
ends-pair a b later q = rw q

ends_last : (l : List ℕ) → length l ≤ 1 → edge_ends l ≡ []
unfolding edge_ends
ends_last [] h = refl
ends_last (a ∷ []) h = refl
ends_last (a ∷ b ∷ l) h = absurd (omega arith)

pub noting-start : {start : ℕ} {list : List ℕ} (nodes : List ℕ) → 0 < length nodes → Noting start list (set nodes 0 start) (set nodes 0 start) 1 list
noting-start {start} {list} nodes h = record {
  low = omega arith;
  len = refl;
  is = ap (λ (l : List ℕ). l ++ edge_ends list) (sym (nums-push 0 start nodes h
      ∙ ap (λ (l : List ℕ). l ++ (start ∷ [])) (tab-zero (λ (i : ℕ). get_or nodes i 0))));
}

module _ {start : ℕ} {list nodes₀ : List ℕ} where
  module _ {nodes rest : List ℕ} {c : ℕ} (N : Noting start list nodes₀ nodes c rest) (room : length (edge_ends list) < length nodes₀) where
    module _ {a b : ℕ} {later : List ℕ} (pair : rest ≡ a ∷ b ∷ later) where
      pub noting-room : c < length nodes
      noting-room = omega (
        arith,
        N.len,
        ap length N.is,
        length-append (nums_in c nodes) (edge_ends rest),
        length-tab c (λ (i : ℕ). get_or nodes i 0),
        ap length (ends-pair a b later pair),
      )

      pub noting-more : Noting start list nodes₀ (set nodes c b) (c + 1) later
      noting-more = record {
        low = omega (arith, N.low, ap length pair);
        len = length-set nodes c _ ∙ N.len;
        is = N.is ∙ ap (λ (l : List ℕ). nums_in c nodes ++ l) (ends-pair a b later pair)
            ∙ sym (append_assoc (nums_in c nodes) (b ∷ []) (edge_ends later))
            ∙ ap (λ (l : List ℕ). l ++ edge_ends later) (sym (nums-push c b nodes noting-room));
      }

    pub noting-end : length rest < 2 → PathNodes start list c nodes
    noting-end h =
        let q : edge_ends rest ≡ [] = ends_last rest (omega arith) in
        let e : start ∷ edge_ends list ≡ nums_in c nodes = N.is ∙ ap (λ (l : List ℕ). nums_in c nodes ++ l) q ∙ append-nil (nums_in c nodes) in
        record { room = omega (arith, N.len, ap length e, length-tab c (λ (i : ℕ). get_or nodes i 0)); is = sym e }
