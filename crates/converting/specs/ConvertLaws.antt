-- What the parts of a conversion give together is what it promises.
use Rattle.std.specs.Prelude.{ℕ, Bool, true, false, length, Ok, Err}
use Rattle.std.proofs.Math.Path.{◌≡◌, refl, ap}
use Rattle.std.proofs.Common.{sym, ◌∙◌, subst, arith}
use mathlib.Core.List.{List, [], ◌∷◌, ◌++◌}
use Rattle.std.proofs.Math.Option.{Option, none, some}
use Rattle.segment.specs.Choice.{either}
use Rattle.segment.proofs.Choice.{either-false, either-true-left, either-true-right}
use Rattle.segment.specs.Layout.{Layout, other_layout}
use Rattle.segment.specs.declared.Digest.{Digest}
use Rattle.segment.specs.declared.Version.{Version}
use Rattle.slot_map.specs.Bit.{named}
use Rattle.record.specs.Answers.{taken, said_by, convert_said}
use Rattle.record.specs.Answered.{ConvertAnswer}
use Rattle.record.specs.declared.Refusal.{Refusal}
use Rattle.record.specs.declared.Refusal.TheVariants.{Geometry, SlotTooLong, VersionTooWide}
use Rattle.model.specs.Log.{View, Head, views_of, head_of, log_of, highest}
use Rattle.model.specs.Causes.{Cause, when, first_cause}
use Rattle.model.specs.Recovery.{geometry_bad, head_else, log_slots, names_no_digest, image_layout}
use Rattle.model.specs.Conversion.{slot_too_long, slot_too_wide, converted_slots, converted_image, target_layout, image_slots, fit_causes, convert_causes, convert_answer, ConvertPromise}
use Rattle.model.specs.Promises.{area_unless}
use Rattle.laws.specs.CauseLaws.{cause-first, cause-skip, first_some, first-none}
use Rattle.laws.specs.Passed.{image-passed}
use Rattle.laws.specs.LogLaws.{names-digests}
use Rattle.drive_log.specs.Shape.{Shape}
use Rattle.recovery.specs.FormatLaws.{geometry-fits}
use Rattle.recovery.specs.Recovering.{image_checks, image_for, image_of}
use Rattle.recovery.specs.RecoverPromises.{SoundImage}
use Rattle.recovery.proofs.RecoverPromises.{sound-image, image-editions, image-scans}
use Rattle.converting.specs.Parts.{LogOf}
use Rattle.converting.specs.Converting.{LogConverted}

-- ---- 29 and 30

module _ (L : Layout) (v : ℕ → View) (p : ℕ → Bool) (S n : ℕ) (target : List ℕ) (K : Layout) (is : K ≡ other_layout L) (long : Bool)
    (long-is : long ≡ slot_too_long K v p S n) where
  abbrev first : Option Refusal
  first = first_cause (fit_causes (other_layout L) v p S n)

  abbrev long-cause : Cause
  long-cause = when (slot_too_long (other_layout L) v p S n) SlotTooLong

  abbrev wide-cause : Cause
  wide-cause = when (slot_too_wide (other_layout L) v p n) VersionTooWide

  its-long : slot_too_long (other_layout L) v p S n ≡ long
  its-long = ap (λ (M : Layout). slot_too_long M v p S n) (sym is) ∙ sym long-is

  refused : (c : Refusal) → first ≡ some c → LogConverted L v p S n target target (Err c)
  unfolding convert_answer area_unless
  refused c e =
      record {
        answers = ap convert_answer (sym e);
        leaves = ap (λ (o : Option Refusal). area_unless o (converted_slots (other_layout L) v p S n) target) (sym e);
      }

  pub log-long : long ≡ true → LogConverted L v p S n target target (Err SlotTooLong)
  log-long e = refused SlotTooLong (cause-first long-cause (wide-cause ∷ []) (its-long ∙ e))

  module _ (short : long ≡ false) (wide : Bool) (wide_is : wide ≡ slot_too_wide K v p n) where
    its-wide : slot_too_wide (other_layout L) v p n ≡ wide
    its-wide = ap (λ (M : Layout). slot_too_wide M v p n) (sym is) ∙ sym wide_is

    pub log-wide : wide ≡ true → LogConverted L v p S n target target (Err VersionTooWide)
    log-wide e =
        refused VersionTooWide
        (cause-skip long-cause (wide-cause ∷ []) (its-long ∙ short) ∙ cause-first wide-cause [] (its-wide ∙ e))

    pub log-put : wide ≡ false → (target' : List ℕ) → target' ≡ converted_slots K v p S n → LogConverted L v p S n target target' (Ok tt)
    unfolding convert_answer area_unless first_cause
    log-put e target' f =
        let none_first : first ≡ none = cause-skip long-cause (wide-cause ∷ []) (its-long ∙ short) ∙ cause-skip wide-cause [] (its-wide ∙ e) in
        record {
          answers = ap convert_answer (sym none_first);
          leaves =
              f ∙ ap (λ (M : Layout). converted_slots M v p S n) is ∙
              ap (λ (o : Option Refusal). area_unless o (converted_slots (other_layout L) v p S n) target) (sym none_first);
        }

-- ---- an area

pub area-shape : (n s : ℕ) (area : List ℕ) → geometry_bad n s (length area) ≡ false → Shape n s area
area-shape n s area g =
    let f = geometry-fits n s (length area) g in
    record { slots-least = f.slots-low; slots-most = f.slots-high; size-least = f.size_low; size-most = f.size-high; whole = f.area-own }

convert-says : (c : Option Refusal) → convert_said (convert_answer c) ≡ said_by c taken
unfolding convert_answer said_by
convert-says none = refl
convert-says (some c) = refl

module _ (n s : ℕ) (source target : List ℕ) where
  abbrev v : ℕ → View
  v = views_of source s

  abbrev causes : List Cause
  causes = convert_causes n s source (length target)

  abbrev image : List Cause
  image = image_checks true (image_layout n s source) v n (head_of v n)

  abbrev fits : List Cause
  fits = fit_causes (target_layout n s source) v (image_slots n s source) s n

  abbrev geometry : Cause
  geometry = when (either (geometry_bad n s (length source)) (geometry_bad n s (length target))) Geometry

  promised : (a : ConvertAnswer) (target' : List ℕ) → a ≡ convert_answer (first_cause causes) → target' ≡ area_unless (first_cause causes) (converted_image n s source) target
      → ConvertPromise n s source target target' a
  promised a target' e f = record { answers = e; says = ap convert_said e ∙ convert-says (first_cause causes); leaves = f }

  turned-away : (c : Refusal) → first_cause causes ≡ some c → ConvertPromise n s source target target (Err c)
  unfolding convert_answer area_unless
  turned-away c e =
      promised (Err c) target (ap convert_answer (sym e))
      (ap (λ (o : Option Refusal). area_unless o (converted_image n s source) target) (sym e))

  -- either buffer
  pub convert-source : geometry_bad n s (length source) ≡ true → ConvertPromise n s source target target (Err Geometry)
  convert-source g =
      turned-away Geometry
      (cause-first geometry (image ++ fits) (either-true-left (geometry_bad n s (length source)) (geometry_bad n s (length target)) g))

  pub convert-target : geometry_bad n s (length target) ≡ true → ConvertPromise n s source target target (Err Geometry)
  convert-target g =
      turned-away Geometry
      (cause-first geometry (image ++ fits) (either-true-right (geometry_bad n s (length source)) (geometry_bad n s (length target)) g))

  module _ (g : geometry_bad n s (length source) ≡ false) (h : geometry_bad n s (length target) ≡ false) where
    past-geometry : first_cause causes ≡ first_cause (image ++ fits)
    past-geometry = cause-skip geometry (image ++ fits) (either-false (geometry_bad n s (length source)) (geometry_bad n s (length target)) g h)

    pub convert-refused : (c : Refusal) → image_of true v n ≡ Err c → ConvertPromise n s source target target (Err c)
    unfolding image_for
    convert-refused c e = turned-away c (go (first_cause image) refl e)
      where
        go : (o : Option Refusal) → first_cause image ≡ o → image_for v n (head_else (head_of v n)) o ≡ Err c → first_cause causes ≡ some c
        go none p q = let z : ◌≡◌ {A = ℕ} 0 1 = cc in absurd (omega arith)
        go (some b) p q = let same : b ≡ c = cc in past-geometry ∙ first_some image fits c (p ∙ ap some same)

    module _ (L : Layout) (i : ℕ) (d : Digest) (top : Version) (sound : image_of true v n ≡ Ok (record { edition = L; slot = i; digest = d; highest = top })) where
      one : SoundImage true L v n i d top
      one = sound-image true L v n i d top sound

      pub sound-log : LogOf L v (named d.map) n
      sound-log =
          record {
            editions = image-editions L v n i d top one;
            digests =
                names-digests v (named d.map) n
                (subst (λ (x : Head). names_no_digest v (log_slots x) n ≡ false) one.head (image-passed _ v n (head_of v n) one.clear).all-digests);
            scans = image-scans true L v n i d top one;
          }

      pub sound-top : top.0 ≡ highest (log_of v (named d.map) n)
      sound-top = ap (λ (x : Version). x.0) one.top-is

      pub convert-sound : (a : ConvertAnswer) (target' : List ℕ) → LogConverted L v (named d.map) s n target target' a → ConvertPromise n s source target target' a
      convert-sound a target' r = promised a target' (r.answers ∙ ap convert_answer (sym first-is)) (r.leaves ∙ left)
        where
          slots : image_slots n s source ≡ named d.map
          slots = ap log_slots one.head

          clear : first_cause image ≡ none
          clear = subst (λ (M : Layout). first_cause (image_checks true M v n (head_of v n)) ≡ none) (sym one.edition) one.clear

          first-is : first_cause causes ≡ first_cause (fit_causes (other_layout L) v (named d.map) s n)
          first-is =
              past-geometry ∙ first-none image fits clear ∙ (λ j. first_cause (fit_causes (other_layout (one.edition j)) v (slots j) s n))

          same-image : converted_slots (other_layout L) v (named d.map) s n ≡ converted_image n s source
          same-image = sym (λ j. converted_slots (other_layout (one.edition j)) v (slots j) s n)

          left : area_unless (first_cause (fit_causes (other_layout L) v (named d.map) s n)) (converted_slots (other_layout L) v (named d.map) s n) target
              ≡ area_unless (first_cause causes) (converted_image n s source) target
          left = λ j. area_unless (sym first-is j) (same-image j) target
