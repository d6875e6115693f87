-- Laws of: The reader's enum: its case for each answer, and the answer that each case tells.
use Rattle.std.specs.Prelude.{ℕ, ◌≡◌, refl, Bool, true, false}
use Rattle.std.proofs.Common.{sym, ◌∙◌, arith}
use Rattle.segment.proofs.Choice.{pick_true, pick-false}
use Rattle.segment.specs.Layout.{Layout, table}
use Rattle.segment.proofs.ValueLaws.{tombstone-kind}
use Rattle.segment.specs.Entry.{Entry, is_tombstone, kind_of, size_of, key_of, Found, entry, end, damage, answer}
use Rattle.segment.specs.declared.Key.{Key}
use Rattle.segment.specs.declared.Version.{Version}
use Rattle.segment.specs.declared.Read.TheVariants.{Object, Tombstone, End, Damage}
use Rattle.segment.specs.AnswerLaws.{Tells}

-- ---- the enum for each answer

pub answer-end : (L : Layout) → answer L end ≡ End
unfolding answer
answer-end L = refl

pub answer-damage : (L : Layout) → answer L damage ≡ Damage
unfolding answer
answer-damage L = refl

module _ (L : Layout) (e : Entry) where
  pub answer-tombstone : is_tombstone e ≡ true → answer L (entry e) ≡ Tombstone (key_of e) (record { 0 = e.version }) (size_of L e)
  unfolding answer
  answer-tombstone t = pick_true (is_tombstone e) _ _ t

  pub answer-object : is_tombstone e ≡ false → answer L (entry e) ≡ Object (key_of e) (record { 0 = e.version }) (kind_of L e) (size_of L e)
  unfolding answer
  answer-object t = pick-false (is_tombstone e) _ _ t

module _ (L : Layout) where
  pub tells-object : (f : Found) (k : Key) (v : Version) (kind length : ℕ) → answer L f ≡ Object k v kind length → Tells L f false k v kind length
  tells-object (entry e) k v kind length p = go (is_tombstone e) refl
    where
      go : (t : Bool) → is_tombstone e ≡ t → Tells L (entry e) false k v kind length
      go true q =
          let no : Tombstone (key_of e) (record { 0 = e.version }) (size_of L e) ≡ Object k v kind length = sym (answer-tombstone L e q) ∙ p in
          let z : ◌≡◌ {A = ℕ} 0 1 = cc in
          absurd (omega arith)
      go false q =
          let same : Object (key_of e) (record { 0 = e.version }) (kind_of L e) (size_of L e) ≡ Object k v kind length = sym (answer-object L e q) ∙ p in
          record { told = e; is = refl; tombstone = q; its-key = cc; its-version = cc; its-kind = cc; its-size = cc }
  tells-object end k v kind length p = let z : ◌≡◌ {A = ℕ} 0 1 = cc (answer-end L) in absurd (omega arith)
  tells-object damage k v kind length p = let z : ◌≡◌ {A = ℕ} 0 1 = cc (answer-damage L) in absurd (omega arith)

  pub tells-tombstone : (f : Found) (k : Key) (v : Version) (length : ℕ) → answer L f ≡ Tombstone k v length → Tells L f true k v (table L).tombstone_kind length
  tells-tombstone (entry e) k v length p = go (is_tombstone e) refl
    where
      go : (t : Bool) → is_tombstone e ≡ t → Tells L (entry e) true k v (table L).tombstone_kind length
      go true q =
          let same : Tombstone (key_of e) (record { 0 = e.version }) (size_of L e) ≡ Tombstone k v length = sym (answer-tombstone L e q) ∙ p in
          record {
            told = e;
            is = refl;
            tombstone = q;
            its-key = cc;
            its-version = cc;
            its-kind = tombstone-kind L e.value q;
            its-size = cc;
          }
      go false q =
          let no : Object (key_of e) (record { 0 = e.version }) (kind_of L e) (size_of L e) ≡ Tombstone k v length = sym (answer-object L e q) ∙ p in
          let z : ◌≡◌ {A = ℕ} 0 1 = cc in
          absurd (omega arith)
  tells-tombstone end k v length p = let z : ◌≡◌ {A = ℕ} 0 1 = cc (answer-end L) in absurd (omega arith)
  tells-tombstone damage k v length p = let z : ◌≡◌ {A = ℕ} 0 1 = cc (answer-damage L) in absurd (omega arith)

  -- an entry's case is neither the end nor damage
  entry-told : (e : Entry) → (answer L (entry e) ≡ End → ⊥) × (answer L (entry e) ≡ Damage → ⊥)
  entry-told e = go (is_tombstone e) refl
    where
      go : (t : Bool) → is_tombstone e ≡ t → (answer L (entry e) ≡ End → ⊥) × (answer L (entry e) ≡ Damage → ⊥)
      go true q = (
        λ p. let z : ◌≡◌ {A = ℕ} 0 1 = cc (answer-tombstone L e q) in omega arith,
        λ p. let z : ◌≡◌ {A = ℕ} 0 1 = cc (answer-tombstone L e q) in omega arith,
      )
      go false q = (
        λ p. let z : ◌≡◌ {A = ℕ} 0 1 = cc (answer-object L e q) in omega arith,
        λ p. let z : ◌≡◌ {A = ℕ} 0 1 = cc (answer-object L e q) in omega arith,
      )

  pub tells-end : (f : Found) → answer L f ≡ End → f ≡ end
  tells-end (entry e) p = absurd ((entry-told e).0 p)
  tells-end end p = refl
  tells-end damage p = let z : ◌≡◌ {A = ℕ} 0 1 = cc (answer-damage L) in absurd (omega arith)

  pub tells-damage : (f : Found) → answer L f ≡ Damage → f ≡ damage
  tells-damage (entry e) p = absurd ((entry-told e).1 p)
  tells-damage end p = let z : ◌≡◌ {A = ℕ} 0 1 = cc (answer-end L) in absurd (omega arith)
  tells-damage damage p = refl
