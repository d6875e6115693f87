-- Laws of: Putting the place of an entry into the cell that a search gives keeps the index rule.
use Rattle.std.specs.Prelude.{ℕ, zero, suc, ◌+◌, ◌≤◌, ◌<◌, ◌≡◌, Bool, true, false, List, [], ◌∷◌, eqb, length, get_or, set}
use Rattle.std.proofs.Math.Path.{refl, sym, ap, subst}
use Rattle.std.proofs.Common.{◌∙◌, inl, inr, arith, length-set, get_or-set_same, get_or-set_other, eqb-true}
use mathlib.Core.List.Memᴰ
use Rattle.std.proofs.Math.Option.{Option, none, some}
use Rattle.std.proofs.lemmas.Bool.{eqb-false}
use Rattle.segment.specs.Entry.{key_of}
use Rattle.segment.specs.declared.Key.{Key}
use Rattle.model.specs.Log.{Placed, place_of, same_key, latest}
use Rattle.model.specs.Index.{around, start_cell, Met, IsLatest, CellGood, HasCell, IndexRule}
use Rattle.laws.specs.Members.{clash, In, first, Same}
use Rattle.laws.specs.Latest.{same_key_lem, key-same, own_key, latest-some, latest-same, Apart}
use Rattle.index.specs.Finds.{Picks, FreeCell}
use Rattle.index.proofs.Finds.{held}
use Rattle.index.proofs.Front.{latest-other, latest-front, latest-behind}
use Rattle.index.specs.Puts.{CellOf, Target}

-- ---- the rule depends on the log's members alone, and on them by the latest entries

module _ (S : ℕ) (a b : List Placed) (cells : List ℕ) where
  pub rule-latest : ((k : Key) → latest a k ≡ latest b k) → IndexRule S a cells → IndexRule S b cells
  rule-latest e r =
      record {
        good = λ i h. good (get_or cells i 0) (r.good i h);
        found = λ x l. r.found x (e (key_of x.entry) ∙ l);
        once = r.once;
      }
    where
      good : (c : ℕ) → CellGood S a c → CellGood S b c
      good c (inl z) = inl z
      good c (inr (x, l, p)) = inr (x, sym (e (key_of x.entry)) ∙ l, p)

  pub rule-same : Same a b → Apart a → IndexRule S a cells → IndexRule S b cells
  rule-same s d = rule-latest (λ k. latest-same a b k s d)

-- ---- one cell changed to a number that is not 0

pub set-held : (cells : List ℕ) (i v j : ℕ) → (v ≡ 0 → ⊥) → (get_or cells j 0 ≡ 0 → ⊥) → get_or (set cells i v) j 0 ≡ 0 → ⊥
set-held [] i v j nv n = n
set-held (c ∷ cells) zero v zero nv n = nv
set-held (c ∷ cells) zero v (suc j) nv n = n
set-held (c ∷ cells) (suc i) v zero nv n = n
set-held (c ∷ cells) (suc i) v (suc j) nv n = set-held cells i v j nv n

pub set-met : (cells : List ℕ) (i v start j : ℕ) → (v ≡ 0 → ⊥) → Met cells start j → Met (set cells i v) start j
set-met cells i v start j nv m =
    record {
      distance = m.distance;
      short = rw (length-set cells i v) m.short;
      arrives = rw (length-set cells i v) m.arrives;
      full = rw (length-set cells i v) (λ d h. set-held cells i v (around (length cells) (start + d)) nv (m.full d h));
    }

module _ (S : ℕ) (log : List Placed) (cells : List ℕ) (k : Key) where
  pub target-known : (y : Placed) → latest log k ≡ some y → (c : HasCell S cells y) → Target S log cells k c.cell
  unfolding CellOf
  target-known y l c =
      let e : k ≡ key_of y.entry = same_key_lem k y.entry (latest-some log k y l).of-key in
      record {
        below = c.below;
        met = subst (λ (j : Key). Met cells (start_cell (length cells) j) c.cell) (sym e) c.met;
        holds = rw l c.holds;
      }

  pub target-new : latest log k ≡ none → (c : FreeCell cells k) → Target S log cells k c.cell
  unfolding CellOf
  target-new l c = record { below = c.below; met = c.met; holds = rw l c.free }

-- ---- the core: x becomes the latest entry of its key, and the other keys stay

module _ (S : ℕ) (log : List Placed) (cells : List ℕ) (rule : IndexRule S log cells) (x : Placed) (t : ℕ → Bool)
    (picks : Picks t S (x ∷ log) (key_of x.entry)) (i : ℕ) (target : Target S log cells (key_of x.entry) i) where
  -- only the target holds the latest entry of the key so far
  only : (j : ℕ) → j < length cells → (y : Placed) → latest log (key_of x.entry) ≡ some y → get_or cells j 0 ≡ place_of S y + 1 → j ≡ i
  unfolding CellOf
  only j h y l c =
      let here : CellOf S (get_or cells i 0) (some y) = rw l at target.holds in
      rule.once j i h target.below (λ z. omega arith) (c ∙ sym here)

  -- and so only it can hold the place of x, or of an entry of the same key
  takes : (j : ℕ) → j < length cells → (c : ℕ) → get_or cells j 0 ≡ c + 1 → t (c + 1) ≡ true → j ≡ i
  takes j h c e p = go (held S log cells rule j h (λ z. omega arith))
    where
      go : (y : Placed) × IsLatest log y × (get_or cells j 0 ≡ place_of S y + 1) → j ≡ i
      go (y, l, d) =
          let s : same_key (key_of x.entry) y.entry ≡ true =
          sym (picks y (Memᴰ.tail (latest-some log (key_of y.entry) y l).member)) ∙ ap t (sym d ∙ e) ∙ p in
          only j h y (ap (latest log) (same_key_lem (key_of x.entry) y.entry s) ∙ l) d

  -- what the target holds so far has the key
  its-holder : (z : Placed) → In z log → get_or cells i 0 ≡ place_of S z + 1 → key_of x.entry ≡ key_of z.entry
  unfolding CellOf
  its-holder z m c = go (latest log (key_of x.entry)) refl target.holds
    where
      go : (o : Option Placed) → latest log (key_of x.entry) ≡ o → CellOf S (get_or cells i 0) o → key_of x.entry ≡ key_of z.entry
      go none l h = absurd (omega arith)
      go (some y) l h =
          let n = latest-some log (key_of x.entry) y l in
          same_key_lem (key_of x.entry) z.entry
          (sym (picks z (Memᴰ.tail m)) ∙ ap t (sym c ∙ h) ∙ picks y (Memᴰ.tail n.member) ∙ n.of-key)

  its-place : t (place_of S x + 1) ≡ true
  its-place = picks x first ∙ own_key x.entry

  module _ (log' : List Placed) (newest : IsLatest log' x)
      (others : (k : Key) → same_key k x.entry ≡ false → latest log' k ≡ latest log k) where
    good : (j : ℕ) → j < length cells → CellGood S log' (get_or (set cells i (place_of S x + 1)) j 0)
    good j h = go (eqb j i) refl
      where
        old : (c : ℕ) → get_or cells j 0 ≡ c → CellGood S log c → (j ≡ i → ⊥) → CellGood S log' c
        old c e (inl z) n = inl z
        old c e (inr (y, l, d)) n = kept (same_key (key_of y.entry) x.entry) refl
          where
            kept : (s : Bool) → same_key (key_of y.entry) x.entry ≡ s → CellGood S log' c
            kept true s = absurd (n (only j h y (ap (latest log) (sym (same_key_lem (key_of y.entry) x.entry s)) ∙ l) (e ∙ d)))
            kept false s = inr (y, others (key_of y.entry) s ∙ l, d)

        go : (b : Bool) → eqb j i ≡ b → CellGood S log' (get_or (set cells i (place_of S x + 1)) j 0)
        go true e =
            subst (λ (n : ℕ). CellGood S log' (get_or (set cells i (place_of S x + 1)) n 0)) (sym (eqb-true j i e))
            (rw (get_or-set_same cells i (place_of S x + 1) 0 target.below) (inr (x, newest, refl)))
        go false e =
            rw (get_or-set_other cells i j (place_of S x + 1) 0 (eqb-false j i e))
            (old (get_or cells j 0) refl (rule.good j h) (eqb-false j i e))

    found : (z : Placed) → IsLatest log' z → HasCell S (set cells i (place_of S x + 1)) z
    found z l = go (same_key (key_of z.entry) x.entry) refl
      where
        new : HasCell S (set cells i (place_of S x + 1)) x
        new =
            record {
              cell = i;
              below = rw (length-set cells i (place_of S x + 1)) target.below;
              holds = get_or-set_same cells i (place_of S x + 1) 0 target.below;
              met =
                  rw (length-set cells i (place_of S x + 1))
                  (set-met cells i (place_of S x + 1) (start_cell (length cells) (key_of x.entry)) i (λ e. omega arith) target.met);
            }

        kept : same_key (key_of z.entry) x.entry ≡ false → HasCell S cells z → HasCell S (set cells i (place_of S x + 1)) z
        kept s c =
            record {
              cell = c.cell;
              below = rw (length-set cells i (place_of S x + 1)) c.below;
              holds = get_or-set_other cells i c.cell (place_of S x + 1) 0 elsewhere ∙ c.holds;
              met =
                  rw (length-set cells i (place_of S x + 1))
                  (set-met cells i (place_of S x + 1) (start_cell (length cells) (key_of z.entry)) c.cell (λ e. omega arith) c.met);
            }
          where
            elsewhere : c.cell ≡ i → ⊥
            elsewhere e =
                let m : In z log = (latest-some log (key_of z.entry) z (sym (others (key_of z.entry) s) ∙ l)).member in
                clash (same_key (key_of z.entry) x.entry)
                (key-same (key_of z.entry) x.entry (sym (its-holder z m (ap (λ (j : ℕ). get_or cells j 0) (sym e) ∙ c.holds)))) s

        go : (s : Bool) → same_key (key_of z.entry) x.entry ≡ s → HasCell S (set cells i (place_of S x + 1)) z
        go true s =
            let k : key_of z.entry ≡ key_of x.entry = same_key_lem (key_of z.entry) x.entry s in
            let same : z ≡ x = some_inj (sym l ∙ ap (latest log') k ∙ newest) in
            subst (λ (w : Placed). HasCell S (set cells i (place_of S x + 1)) w) (sym same) new
          where
            some_inj : ◌≡◌ {A = Option Placed} (some z) (some x) → z ≡ x
            some_inj e = cc
        go false s = kept s (rule.found z (sym (others (key_of z.entry) s) ∙ l))

    once :
        (a b : ℕ) → a < length cells → b < length cells → (get_or (set cells i (place_of S x + 1)) a 0 ≡ 0 → ⊥) →
        get_or (set cells i (place_of S x + 1)) a 0 ≡ get_or (set cells i (place_of S x + 1)) b 0 → a ≡ b
    once a b ha hb n e = go (eqb a i) refl (eqb b i) refl
      where
        here : (j : ℕ) → j ≡ i → get_or (set cells i (place_of S x + 1)) j 0 ≡ place_of S x + 1
        here j q =
            ap (λ (k : ℕ). get_or (set cells i (place_of S x + 1)) k 0) q ∙ get_or-set_same cells i (place_of S x + 1) 0 target.below

        there : (j : ℕ) → (j ≡ i → ⊥) → get_or (set cells i (place_of S x + 1)) j 0 ≡ get_or cells j 0
        there j q = get_or-set_other cells i j (place_of S x + 1) 0 q

        go : (p : Bool) → eqb a i ≡ p → (q : Bool) → eqb b i ≡ q → a ≡ b
        go true p true q = eqb-true a i p ∙ sym (eqb-true b i q)
        go true p false q =
            absurd (eqb-false b i q (takes b hb (place_of S x) (sym (there b (eqb-false b i q)) ∙ sym e ∙ here a (eqb-true a i p)) its-place))
        go false p true q =
            absurd (eqb-false a i p (takes a ha (place_of S x) (sym (there a (eqb-false a i p)) ∙ e ∙ here b (eqb-true b i q)) its-place))
        go false p false q =
            rule.once a b ha hb (λ z. n (there a (eqb-false a i p) ∙ z)) (sym (there a (eqb-false a i p)) ∙ e ∙ there b (eqb-false b i q))

    pub put-latest : IndexRule S log' (set cells i (place_of S x + 1))
    put-latest =
        record {
          good = λ j h. good j (rw (length-set cells i (place_of S x + 1)) at h);
          found = found;
          once =
              λ a b ha hb.
              once a b (rw (length-set cells i (place_of S x + 1)) at ha) (rw (length-set cells i (place_of S x + 1)) at hb);
        }

  -- a newer entry of its key, or the first one
  pub put-newest :
      ((y : Placed) → In y log → same_key (key_of x.entry) y.entry ≡ true → y.entry.version ≤ x.entry.version) →
      IndexRule S (x ∷ log) (set cells i (place_of S x + 1))
  put-newest h = put-latest (x ∷ log) (latest-front log x h) (latest-other log x)

-- an older entry of a known key changes no cell
pub put-older :
    (S : ℕ) (log : List Placed) (cells : List ℕ) (x y : Placed) → IndexRule S log cells → latest log (key_of x.entry) ≡ some y →
    x.entry.version < y.entry.version → IndexRule S (x ∷ log) cells
put-older S log cells x y rule l h = rule-latest S log (x ∷ log) cells (λ k. sym (latest-behind log x y l h k)) rule
