-- Going round: cell x of m for x below 2 m.
use Rattle.std.specs.Prelude.{ℕ, ◌+◌, ◌-◌, ◌≤◌, ◌<◌, ◌≡◌, refl, Bool, true, false, ltb}
use Rattle.std.proofs.Common.{sym, ◌∙◌, ap, mod-lt, arith, lt-ltb, le-ltb, ltb-true, ltb-false}
use Rattle.segment.proofs.Choice.{pick_true, pick-false}
use Rattle.word.specs.Fnv.{key_hash}
use Rattle.segment.specs.declared.Key.{Key}
use Rattle.model.specs.Index.{around, start_cell}

pub around-below : (m x : ℕ) → x < m → around m x ≡ x
unfolding around
around-below m x h = pick_true (ltb x m) x (x - m) (lt-ltb x m h)

pub around-over : (m x : ℕ) → m ≤ x → around m x ≡ x - m
unfolding around
around-over m x h = pick-false (ltb x m) x (x - m) (le-ltb x m h)

pub around-lt : (m x : ℕ) → x < m + m → around m x < m
around-lt m x h = go (ltb x m) refl
  where
    go : (t : Bool) → ltb x m ≡ t → around m x < m
    go true e = omega (arith, around-below m x (ltb-true x m e), ltb-true x m e)
    go false e = omega (arith, around-over m x (ltb-false x m e), ltb-false x m e)

-- one more step
pub around-next : (m a d : ℕ) → a < m → d < m → around m (around m (a + d) + 1) ≡ around m (a + (d + 1))
around-next m a d ha hd = go (ltb (a + d) m) refl
  where
    go : (t : Bool) → ltb (a + d) m ≡ t → around m (around m (a + d) + 1) ≡ around m (a + (d + 1))
    go true e = ap (λ (x : ℕ). around m (x + 1)) (around-below m (a + d) (ltb-true (a + d) m e)) ∙ ap (around m) (omega arith)
    go false e =
        ap (λ (x : ℕ). around m (x + 1)) (around-over m (a + d) (ltb-false (a + d) m e))
        ∙ around-below m (a + d - m + 1) (omega (arith, ltb-false (a + d) m e))
        ∙ omega (arith, ltb-false (a + d) m e)
        ∙ sym (around-over m (a + (d + 1)) (omega (arith, ltb-false (a + d) m e)))

-- every cell is met within m steps
pub around-onto : (m a i : ℕ) → a < m → i < m → (d : ℕ) × (d < m) × (around m (a + d) ≡ i)
around-onto m a i ha hi = go (ltb i a) refl
  where
    go : (t : Bool) → ltb i a ≡ t → (d : ℕ) × (d < m) × (around m (a + d) ≡ i)
    go true e =
        (i + m - a, omega (arith, ltb-true i a e), around-over m (a + (i + m - a)) (omega (arith, ltb-true i a e)) ∙ omega (arith, ltb-true i a e))
    go false e =
        (i - a, omega (arith, ltb-false i a e), around-below m (a + (i - a)) (omega (arith, ltb-false i a e)) ∙ omega (arith, ltb-false i a e))

pub start-below : (m : ℕ) (k : Key) → 0 < m → start_cell m k < m
start-below m k h = mod-lt (key_hash k.table k.key) h
