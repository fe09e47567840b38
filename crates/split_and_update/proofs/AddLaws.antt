-- The new edges, pushed one kind after the other. Assumes nothing.
use mathlib.Core.Path.{◌≡◌, ap, ◌∙◌, subst}
use mathlib.Core.Bool.{Bool, false, cond, ◌||◌}
use mathlib.Core.List.{List, [], ◌∷◌, ◌++◌}
use Prim.Native.Nat.{ℕ, ◌+◌, ◌*◌, ◌≤◌, ◌<◌}
use native.Mathlib.Omega.{arith}
use lib.ListN.{length, get_or, length-append, length-map}
use Rattle.defs.specs.Lists.{bit}
use Rattle.defs.specs.SeqGraph.{Edge, EdgeData, new_edge, joined_data}
use Rattle.defs.specs.Rewrites.{MidPlan, support_one, only_if, edges_to_middles, edges_from_middles, prefix_to_suffix_from}
use Rattle.defs.specs.Record.{flag_is_ref, flag_is_capped}
use Rattle.laws.proofs.Flags.{plain-says-ref, plain-not-capped}
use Rattle.laws.proofs.SplitCounts.{length-to_middles, length-only, length-from_middles}
use Rattle.edge_data.specs.EdgeData.{carries, carried_data}
use Rattle.edge_data.specs.declared.Carried.{Carried}
use Rattle.store.specs.Store.{edge}
use Rattle.split_and_update.specs.Pushed.{EdgesPushed, edge_if, leaves, left_nodes}
use Rattle.split_and_update.specs.Ends.{plans_of, plan_of, gone_nodes, Mids, any_ref, mid_edges, nothing, DirectIs, upper, lower, direct_once}
use Rattle.split_and_update.specs.Ends.{update_edges, update_edges_of, EdgeIfPushed, MidsPushed, Edgeable, EdgesAdded}
use Rattle.split_and_update.specs.declared.Places.{Places}
use Rattle.split_and_update.proofs.PushLaws.{pushed_then}
use Rattle.split_and_update.proofs.NodeLaws.{length-mid, plans-same, mids-kept}

pub new-length : (w : Places) (l : List MidPlan) (d : EdgeData) → length (update_edges w l d) ≡ bit w.prefixed
    + (bit w.linked + (length l + (bit w.consumed + length l)))
unfolding update_edges
new-length w l d = omega (
  arith,
  length-append e₁ (e₂ ++ (e₃ ++ (e₄ ++ e₅))),
  length-append e₂ (e₃ ++ (e₄ ++ e₅)),
  length-append e₃ (e₄ ++ e₅),
  length-append e₄ e₅,
  length-only w.prefixed first,
  length-only w.linked last,
  length-only w.consumed between,
  length-to_middles (upper w) w.middles l,
  length-from_middles w.middles (lower w) l,
)
  where
    first : Edge
    first = new_edge w.top w.prefix (support_one (any_ref 1 l || d.is_ref))

    last : Edge
    last = new_edge w.suffix w.bottom (support_one (any_ref 0 l || d.is_ref))

    between : Edge
    between = new_edge (upper w) (lower w) (direct_once w d)

    e₁ : List Edge
    e₁ = only_if w.prefixed (first ∷ [])

    e₂ : List Edge
    e₂ = only_if w.linked (last ∷ [])

    e₃ : List Edge
    e₃ = edges_to_middles (upper w) w.middles l

    e₄ : List Edge
    e₄ = only_if w.consumed (between ∷ [])

    e₅ : List Edge
    e₅ = edges_from_middles w.middles (lower w) l

if-count : {k : ℕ} {es : List ℕ} {t : Bool} {a b s f k' : ℕ} {es' : List ℕ} → EdgeIfPushed k es t a b s f k' es' → k' ≡ k + bit t
if-count {k} {t = t} {a = a} {b = b} {s = s} {f = f} A = A.is.count ∙ ap (λ (x : ℕ). k + x) (length-only t (edge a b s f))

mids-count : {m k : ℕ} {es vs heads nodes : List ℕ} {c cut off u first k' : ℕ} {es' : List ℕ}
    → MidsPushed m k es vs heads nodes c cut off u first k' es' → k' ≡ k + length (left_nodes vs cut nodes c)
mids-count {m} {k} {es} {vs} {heads} {nodes} {c} {cut} {off} {u} {first} A =
    A.is.count ∙ ap (λ (x : ℕ). k + x) (length-mid off u first (plans_of m es heads (left_nodes vs cut nodes c))
    ∙ length-map (left_nodes vs cut nodes c) (plan_of m es heads []))

module _ {m : ℕ} {es vs heads nodes : List ℕ} {c cut : ℕ} {w : Places} (E : Edgeable m es vs heads nodes c cut w) where
  abbrev left : List ℕ
  left = left_nodes vs cut nodes c

  abbrev plans : List MidPlan
  plans = plans_of m es heads left

  abbrev together : EdgeData
  together = prefix_to_suffix_from nothing (plans_of m es heads (gone_nodes vs cut nodes c))

  room : 4 * (m + (bit w.prefixed + (bit w.linked + (length left + (bit w.consumed + length left))))) ≤ length es
  room = omega (arith, E.room, new-length w plans together, length-map left (plan_of m es heads []))

  pub room₁ : 4 * (m + bit w.prefixed) ≤ length es
  room₁ = omega (arith, room)

  module _ {a₁ b₁ s₁ f₁ k₁ : ℕ} {es₁ : List ℕ} (A₁ : EdgeIfPushed m es w.prefixed a₁ b₁ s₁ f₁ k₁ es₁) where
    pub room₂ : 4 * (k₁ + bit w.linked) ≤ length es₁
    room₂ = omega (arith, room, if-count A₁, A₁.is.len)

    module _ {a₂ b₂ s₂ f₂ k₂ : ℕ} {es₂ : List ℕ} (A₂ : EdgeIfPushed k₁ es₁ w.linked a₂ b₂ s₂ f₂ k₂ es₂) where
      len₂ : length es₂ ≡ length es
      len₂ = A₂.is.len ∙ A₁.is.len

      pub asks₃ : ((1 ≤ 1) × ((m ≤ k₂) × ((w.middles + c < 4294967296) × Mids m es₂ vs heads nodes c))) × (4 * (k₂ + length left) ≤ length es₂)
      asks₃ = (
        (omega arith, (omega (arith, if-count A₁, if-count A₂), (E.small, mids-kept E.mids len₂))),
        omega (arith, room, if-count A₁, if-count A₂, len₂),
      )

      module _ {u₃ k₃ : ℕ} {es₃ : List ℕ} (A₃ : MidsPushed m k₂ es₂ vs heads nodes c cut 1 u₃ w.middles k₃ es₃) where
        len₃ : length es₃ ≡ length es
        len₃ = A₃.is.len ∙ len₂

        pub room₄ : 4 * (k₃ + bit w.consumed) ≤ length es₃
        room₄ = omega (arith, room, if-count A₁, if-count A₂, mids-count A₃, len₃)

        module _ {a₄ b₄ s₄ f₄ k₄ : ℕ} {es₄ : List ℕ} (A₄ : EdgeIfPushed k₃ es₃ w.consumed a₄ b₄ s₄ f₄ k₄ es₄) where
          len₄ : length es₄ ≡ length es
          len₄ = A₄.is.len ∙ len₃

          pub asks₅ : ((0 ≤ 1) × ((m ≤ k₄) × ((w.middles + c < 4294967296) × Mids m es₄ vs heads nodes c))) × (4 * (k₄ + length left) ≤ length es₄)
          asks₅ = (
            (
              omega arith,
              (
                omega (arith, if-count A₁, if-count A₂, mids-count A₃, if-count A₄),
                (E.small, mids-kept E.mids len₄),
              ),
            ),
            omega (arith, room, if-count A₁, if-count A₂, mids-count A₃, if-count A₄, len₄),
          )

          kept₂ : (i : ℕ) → i < 4 * m → get_or es₂ i 0 ≡ get_or es i 0
          kept₂ i h = A₂.is.same i (omega (arith, if-count A₁)) ∙ A₁.is.same i h

          kept₄ : (i : ℕ) → i < 4 * m → get_or es₄ i 0 ≡ get_or es i 0
          kept₄ i h = A₄.is.same i (omega (arith, if-count A₁, if-count A₂, mids-count A₃))
              ∙ A₃.is.same i (omega (arith, if-count A₁, if-count A₂)) ∙ kept₂ i h

          plans₂ : plans_of m es₂ heads left ≡ plans
          plans₂ = plans-same E.mids es₂ kept₂ (leaves vs cut)

          plans₄ : plans_of m es₄ heads left ≡ plans
          plans₄ = plans-same E.mids es₄ kept₄ (leaves vs cut)

          module _ {u₅ k₅ : ℕ} {es₅ : List ℕ} (A₅ : MidsPushed m k₄ es₄ vs heads nodes c cut 0 u₅ w.middles k₅ es₅) where
            pub pushed-all : (d d' : Carried) {direct into out r₁ r₀ : Bool} → DirectIs m es vs heads nodes c cut d → direct ≡ flag_is_ref d.flag
                → into ≡ any_ref 1 plans → out ≡ any_ref 0 plans → r₁ ≡ (into || direct) → f₁ ≡ bit r₁ → r₀ ≡ (out || direct) → f₂ ≡ bit r₀
                → a₁ ≡ w.top → b₁ ≡ w.prefix → s₁ ≡ 1 → a₂ ≡ w.suffix → b₂ ≡ w.bottom → s₂ ≡ 1
                → u₃ ≡ upper w → a₄ ≡ upper w → b₄ ≡ lower w → u₅ ≡ lower w
                → carried_data d' ≡ cond w.prefixed (joined_data (carried_data d) (carried_data d)) (carried_data d) → s₄ ≡ d'.support → f₄ ≡ d'.flag
                → EdgesAdded m es vs heads nodes c cut w k₅ es₅
            unfolding update_edges new_edge support_one
            pushed-all d d' {direct} D qd q₁ q₀ h₁ v₁ h₀ v₀ i₁ j₁ o₁ i₂ j₂ o₂ i₃ i₄ j₄ i₅ hd hs hf = record {
              is = subst (λ (new : List Edge). EdgesPushed m es new k₅ es₅) news
                  (pushed_then A₁.is (pushed_then A₂.is (pushed_then A₃.is (pushed_then A₄.is A₅.is))));
            }
              where
                -- what a new edge of support 1 carries
                plain : (off : ℕ) {s f : ℕ} {any r : Bool} → s ≡ 1 → any ≡ any_ref off plans → r ≡ (any || direct) → f ≡ bit r
                    → ◌≡◌ {A = EdgeData} (carries s f) record { support = 1; is_ref = any_ref off plans || together.is_ref; capped = false }
                plain off {r = r} o q h v = λ i. record {
                  support = o i;
                  is_ref = (ap flag_is_ref v ∙ plain-says-ref r ∙ h ∙ (λ j. q j || (qd ∙ (λ z. (D.is z).is_ref)) j)) i;
                  capped = (ap flag_is_capped v ∙ plain-not-capped r) i;
                }

                doubled : carries s₄ f₄ ≡ direct_once w together
                doubled = (λ i. carries (hs i) (hf i)) ∙ hd ∙ ap (direct_once w) D.is

                news : edge_if w.prefixed a₁ b₁ s₁ f₁ ++ (edge_if w.linked a₂ b₂ s₂ f₂
                    ++ (mid_edges 1 u₃ w.middles (plans_of m es₂ heads left)
                    ++ (edge_if w.consumed a₄ b₄ s₄ f₄ ++ mid_edges 0 u₅ w.middles (plans_of m es₄ heads left))))
                    ≡ update_edges_of m es vs heads nodes c cut w
                news = λ i.
                    only_if w.prefixed (new_edge (i₁ i) (j₁ i) (plain 1 o₁ q₁ h₁ v₁ i) ∷ [])
                    ++ (only_if w.linked (new_edge (i₂ i) (j₂ i) (plain 0 o₂ q₀ h₀ v₀ i) ∷ [])
                    ++ (edges_to_middles (i₃ i) w.middles (plans₂ i)
                    ++ (only_if w.consumed (new_edge (i₄ i) (j₄ i) (doubled i) ∷ []) ++ edges_from_middles w.middles (i₅ i) (plans₄ i))))
