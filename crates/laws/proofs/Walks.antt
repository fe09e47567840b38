-- Walks of a labelled net from its sources to its sinks, and the lemma of local replacement.
-- Assumes nothing.
use Prim.Native.Nat.{ℕ, zero, suc, ◌+◌, ◌≤◌, ◌<◌}
use mathlib.Core.Path.{◌≡◌, refl, sym, ap, ◌∙◌, subst}
use mathlib.Core.Bool.{Bool, true, false, not, true≢false}
use mathlib.Core.List.{List, [], ◌∷◌, ◌++◌, append_assoc, append-nil}

-- vertices, edges, sequences
pub record Net : Type 1 where
  pub Vx : ℕ → Type 0
  pub Ed : ℕ → ℕ → Type 0
  pub lab : ℕ → List ℕ

-- a point: before the first vertex, a vertex, behind the last
pub data Pt : Type 0 where
  start : Pt
  at : ℕ → Pt
  stop : Pt

abbrev pub IsSource : Net → ℕ → Type 0
IsSource N v = N.Vx v × ((u : ℕ) → N.Ed u v → ⊥)

abbrev pub IsSink : Net → ℕ → Type 0
IsSink N v = N.Vx v × ((w : ℕ) → N.Ed v w → ⊥)

-- one step: into a source, along an edge, out of a sink
abbrev pub Go : Net → Pt → Pt → Type 0
Go N start start = ⊥
Go N start (at v) = IsSource N v
Go N start stop = ⊥
Go N (at u) start = ⊥
Go N (at u) (at v) = N.Ed u v
Go N (at u) stop = IsSink N u
Go N stop q = ⊥

abbrev pub text : Net → Pt → List ℕ
text N start = []
text N (at v) = N.lab v
text N stop = []

-- a walk, with what it spells behind its first point
pub data Steps (N : Net) : Pt → Pt → List ℕ → Type 0 where
  stay : {p : Pt} → Steps N p p []
  step : {p q r : Pt} {s : List ℕ} → Go N p q → Steps N q r s → Steps N p r (text N q ++ s)

abbrev pub Reads : Net → List ℕ → Type 0
Reads N s = Steps N start stop s

pub cast : {N : Net} {p q : Pt} {s t : List ℕ} → s ≡ t → Steps N p q s → Steps N p q t
cast e w = rw e at w

pub then : {N : Net} {p q r : Pt} {s t : List ℕ} → Steps N p q s → Steps N q r t → Steps N p r (s ++ t)
then stay w = w
then {N} (step {q = q} {s = s} g v) w = rw append_assoc (step g (then v w))

pub single : {N : Net} {p q : Pt} → Go N p q → Steps N p q (text N q)
single {N} {q = q} g = cast (append-nil (text N q)) (step g stay)

pub by_test : {X : Type 0} (b : Bool) → (b ≡ true → X) → (b ≡ false → X) → X
by_test true f g = f refl
by_test false f g = g refl

-- local replacement
abbrev pub kept : (ℕ → Bool) → Pt → Bool
kept keep start = true
kept keep (at v) = keep v
kept keep stop = true

-- a walk from a point over vertices that are not kept to one that is, or to the end
pub data Tour (N : Net) (keep : ℕ → Bool) : Pt → Pt → List ℕ → Type 0 where
  hit : {p q : Pt} → Go N p q → kept keep q ≡ true → Tour N keep p q (text N q)
  pass : {p q r : Pt} {s : List ℕ} → Go N p q → kept keep q ≡ false → Tour N keep q r s → Tour N keep p r (text N q ++ s)

-- each tour from a kept point of the one net has a walk in the other
abbrev pub Replaces : Net → Net → (ℕ → Bool) → Type 0
Replaces N M keep = (p q : Pt) (s : List ℕ) → kept keep p ≡ true → Tour N keep p q s → Steps M p q s

module _ (N M : Net) (keep : ℕ → Bool) where
  -- `a` is what is spelled since the last kept point p₀
  from_mid : Replaces N M keep → {p q : Pt} {s : List ℕ} → Steps N p q s → kept keep q ≡ true
      → (p₀ : Pt) (a : List ℕ) → ((r : Pt) (t : List ℕ) → Tour N keep p r t → Steps M p₀ r (a ++ t)) → (kept keep p ≡ true → Steps M p₀ p a)
      → Steps M p₀ q (a ++ s)
  from_mid each stay kq p₀ a rest fin = rw append-nil (fin kq)
  from_mid each (step {q = m} {r = q} {s = s} g w) kq p₀ a rest fin =
      cast (append_assoc a (text N m) s)
      (by_test (kept keep m)
      (λ km. then (rest m (text N m) (hit g km)) (from_mid each w kq m [] (λ r t. each m r t km) (λ _. stay)))
      (λ nk. from_mid each w kq p₀ (a ++ text N m) (λ r t u. rw append_assoc (rest r (text N m ++ t) (pass g nk u))) (λ k. absurd (true≢false (sym k ∙ nk)))))

  pub replaced : Replaces N M keep → {p q : Pt} {s : List ℕ} → Steps N p q s → kept keep p ≡ true → kept keep q ≡ true → Steps M p q s
  replaced each {p = p} w kp kq = from_mid each w kq p [] (λ r t. each p r t kp) (λ _. stay)

  pub reads : Replaces N M keep → {s : List ℕ} → Reads N s → Reads M s
  reads each w = replaced each w refl refl

-- a relation that carries each step carries the walks
pub record Carries (N M : Net) (R : ℕ → ℕ → Type 0) : Type 0 where
  pub same : (u v : ℕ) → R u v → M.lab v ≡ N.lab u
  pub along : (u v w : ℕ) → R u v → N.Ed u w → (x : ℕ) × R w x × M.Ed v x
  pub begins : (u : ℕ) → IsSource N u → (v : ℕ) × R u v × IsSource M v
  pub ends : (u v : ℕ) → R u v → IsSink N u → IsSink M v

module _ {N M : Net} {R : ℕ → ℕ → Type 0} (c : Carries N M R) where
  abbrev Rel : Pt → Pt → Type 0
  Rel start start = Unit {0}
  Rel start (at v) = ⊥
  Rel start stop = ⊥
  Rel (at u) start = ⊥
  Rel (at u) (at v) = R u v
  Rel (at u) stop = ⊥
  Rel stop start = ⊥
  Rel stop (at v) = ⊥
  Rel stop stop = Unit {0}

  carry_one : (p q p' : Pt) → Rel p p' → Go N p q → (q' : Pt) × Rel q q' × Go M p' q' × (text M q' ≡ text N q)
  carry_one start start start h g = absurd g
  carry_one start (at v) start h g = let b = c.begins v g in (at b.0, b.1, b.2, c.same v b.0 b.1)
  carry_one start stop start h g = absurd g
  carry_one start q (at v) h g = absurd h
  carry_one start q stop h g = absurd h
  carry_one (at u) q start h g = absurd h
  carry_one (at u) start (at v) h g = absurd g
  carry_one (at u) (at w) (at v) h g = let b = c.along u v w h g in (at b.0, b.1, b.2, c.same w b.0 b.1)
  carry_one (at u) stop (at v) h g = (stop, tt, c.ends u v h g, refl)
  carry_one (at u) q stop h g = absurd h
  carry_one stop q p' h g = absurd g

  carry_all : {p q : Pt} {s : List ℕ} → Steps N p q s → (p' : Pt) → Rel p p' → (q' : Pt) × Rel q q' × Steps M p' q' s
  carry_all stay p' h = (p', h, stay)
  carry_all (step {p = p} {q = q} {s = s} g w) p' h =
      let b = carry_one p q p' h g in
      let d = carry_all w b.0 b.1 in
      (d.0, d.1, cast (ap (λ t. t ++ s) b.3) (step b.2 d.2))

  stops : {p : Pt} {s : List ℕ} (q : Pt) → Rel stop q → Steps M p q s → Steps M p stop s
  stops start h w = absurd h
  stops (at v) h w = absurd h
  stops stop h w = w

  pub carry : {s : List ℕ} → Reads N s → Reads M s
  carry w = let d = carry_all w start tt in stops d.0 d.1 d.2
