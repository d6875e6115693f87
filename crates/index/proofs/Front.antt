-- The latest entries of a log with one more entry.
use Rattle.std.specs.Prelude.{◌≤◌, ◌<◌, ◌≡◌, Bool, List, ◌∷◌, ltb}
use Rattle.std.proofs.Math.Path.{refl}
use Rattle.std.proofs.Common.{sym, ◌∙◌, ap, lt-ltb, le-ltb}
use Rattle.std.proofs.Math.Bool.{true, false}
use Rattle.std.proofs.Math.Option.{Option, none, some}
use Rattle.segment.specs.Choice.{pick}
use Rattle.segment.proofs.Choice.{pick_true, pick-false}
use Rattle.segment.specs.Entry.{key_of}
use Rattle.segment.specs.declared.Key.{Key}
use Rattle.model.specs.Log.{Placed, same_key, later_of, latest}
use Rattle.laws.specs.Members.{In}
use Rattle.laws.specs.Latest.{same_key_lem, own_key, latest-some}

module _ (log : List Placed) (x : Placed) where
  pub latest-other : (k : Key) → same_key k x.entry ≡ false → latest (x ∷ log) k ≡ latest log k
  unfolding latest
  latest-other k e = pick-false (same_key k x.entry) (later_of x (latest log k)) (latest log k) e

  pub latest-its : (k : Key) → same_key k x.entry ≡ true → latest (x ∷ log) k ≡ later_of x (latest log k)
  unfolding latest
  latest-its k e = pick_true (same_key k x.entry) (later_of x (latest log k)) (latest log k) e

  -- no entry of its key is newer
  pub latest-front :
      ((y : Placed) → In y log → same_key (key_of x.entry) y.entry ≡ true → y.entry.version ≤ x.entry.version) →
      latest (x ∷ log) (key_of x.entry) ≡ some x
  unfolding later_of
  latest-front h = latest-its (key_of x.entry) (own_key x.entry) ∙ go (latest log (key_of x.entry)) refl
    where
      go : (o : Option Placed) → latest log (key_of x.entry) ≡ o → later_of x o ≡ some x
      go none e = refl
      go (some y) e =
          let n = latest-some log (key_of x.entry) y e in
          pick-false (ltb x.entry.version y.entry.version) (some y) (some x)
          (le-ltb x.entry.version y.entry.version (h y n.member n.of-key))

  -- a newer entry of its key is there
  pub latest-behind :
      (y : Placed) → latest log (key_of x.entry) ≡ some y → x.entry.version < y.entry.version → (k : Key) →
      latest (x ∷ log) k ≡ latest log k
  unfolding later_of
  latest-behind y l h k = go (same_key k x.entry) refl
    where
      newer : later_of x (some y) ≡ some y
      newer = pick_true (ltb x.entry.version y.entry.version) (some y) (some x) (lt-ltb x.entry.version y.entry.version h)

      go : (t : Bool) → same_key k x.entry ≡ t → latest (x ∷ log) k ≡ latest log k
      go true e =
          let here : latest log k ≡ some y = ap (latest log) (same_key_lem k x.entry e) ∙ l in
          latest-its k e ∙ ap (later_of x) here ∙ newer ∙ sym here
      go false e = latest-other k e

  -- it is there already
  pub latest-again : latest log (key_of x.entry) ≡ some x → (k : Key) → latest (x ∷ log) k ≡ latest log k
  unfolding later_of
  latest-again l k = go (same_key k x.entry) refl
    where
      itself : (t : Bool) → pick t (some x) (some x) ≡ some x
      itself true = pick_true true (some x) (some x) refl
      itself false = pick-false false (some x) (some x) refl

      go : (t : Bool) → same_key k x.entry ≡ t → latest (x ∷ log) k ≡ latest log k
      go true e =
          let here : latest log k ≡ some x = ap (latest log) (same_key_lem k x.entry e) ∙ l in
          latest-its k e ∙ ap (later_of x) here ∙ itself (ltb x.entry.version x.entry.version) ∙ sym here
      go false e = latest-other k e
