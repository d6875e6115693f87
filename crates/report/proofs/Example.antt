-- Laws of: Texts computed: 01's two lines after case 2, keys in order, refusals, and the editions.
use Rattle.std.specs.Prelude.{ℕ, ◌≡◌, refl, List, [], ◌∷◌, ◌++◌, replicate}
use Rattle.model.specs.Operations.{write, delete}
use Rattle.model.specs.Play.{opened, keyed, object}
use Rattle.model.specs.Areas.{seg, vacant}
use Rattle.text.specs.Ascii.{ascii}
use Rattle.text.specs.Digits.{digits_in}
use Rattle.report.specs.Listing.{before, in_order, ascending, present_of}
use Rattle.report.specs.Report.{line_of, lines_of, text_unless, area_text, dump_text}
use Rattle.report.specs.Example.{after, head, input, second}

case-2 : after (write (keyed 7 9) (replicate 8 0x11) ∷ []) ≡ ascii "next 2 digest 1 keys 1\n7 9 1 1\n"
unfolding opened digits_in before in_order ascending present_of line_of lines_of text_unless area_text dump_text
case-2 = refl

-- R-3: kind 7 is printed like any other.
kind-7 : after (write (keyed 7 9) (replicate 120 0x11) ∷ []) ≡ ascii "next 2 digest 1 keys 1\n7 9 1 7\n"
unfolding opened digits_in before in_order ascending present_of line_of lines_of text_unless area_text dump_text
kind-7 = refl

-- A key that is written anew stands once, and one that is deleted does not stand.
in_order_lem :
    after
    (write (keyed 2 1) (replicate 8 1)
    ∷ write (keyed 1 4294967295) (replicate 8 2)
    ∷ write (keyed 1 7) (replicate 8 3)
    ∷ write (keyed 2 0) (replicate 56 4)
    ∷ delete (keyed 1 7)
    ∷ write (keyed 2 1) (replicate 24 5)
    ∷ [])
    ≡ ascii "next 7 digest 1 keys 3\n1 4294967295 2 1\n2 0 4 3\n2 1 6 2\n"
unfolding opened digits_in before in_order ascending present_of line_of lines_of text_unless area_text dump_text
in_order_lem = refl

-- Two bytes; an area that is a byte short; one without a digest; a head whose map or next version is wrong.
refusals :
    (dump_text (4 ∷ 0 ∷ []) ≡ ascii "refused 1\n")
    × (dump_text (input (replicate 1023 0)) ≡ ascii "refused 1\n")
    × (dump_text (input (replicate 1024 0)) ≡ ascii "refused 16\n")
    × (dump_text (input (head 1 2 1)) ≡ ascii "refused 24\n")
    × (dump_text (input (head 1 3 1)) ≡ ascii "refused 25\n")
    × (dump_text (input (head 1 3 0)) ≡ ascii "refused 17\n")
unfolding opened digits_in before in_order ascending present_of line_of lines_of text_unless area_text dump_text
refusals = (refl, refl, refl, refl, refl, refl)

-- The kinds of edition 2 are printed as they stand, and a version of 20 digits.
edition-2 :
    dump_text
    (input
    (second 2 3 1
    (object (keyed 7 1) 1 (replicate 8 1)
    ∷ object (keyed 7 2) 2 (replicate 24 2)
    ∷ object (keyed 7 4) 18446744073709551614 (replicate 120 4)
    ∷ []) ++
    second 1 1 1 (object (keyed 7 3) 3 (replicate 56 3) ∷ []) ++ vacant ++ vacant))
    ≡ ascii "next 18446744073709551615 digest 2 keys 4\n7 1 1 9\n7 2 2 10\n7 3 3 11\n7 4 18446744073709551614 12\n"
unfolding opened digits_in before in_order ascending present_of line_of lines_of text_unless area_text dump_text
edition-2 = refl

-- Both editions in one log, the head's the earlier and the later (R-13), which takes each slot by its own kinds; a digest number in both;
-- and a slot of the other edition outside the log.
both-editions :
    (dump_text (input (seg 2 3 1 [] ++ second 1 1 1 [] ++ vacant ++ vacant)) ≡ ascii "refused 28\n")
    × (dump_text
    (input
    (second 2 3 1 (object (keyed 7 1) 5 (replicate 8 1) ∷ []) ++
    seg 1 1 1 (object (keyed 7 1) 1 (replicate 8 1) ∷ object (keyed 7 2) 2 (replicate 24 2) ∷ []) ++ vacant ++ vacant))
    ≡ ascii "next 6 digest 2 keys 2\n7 1 5 9\n7 2 2 2\n")
    × (dump_text (input (seg 2 3 1 [] ++ second 2 3 1 [] ++ vacant ++ vacant)) ≡ ascii "refused 17\n")
    × (dump_text (input (seg 2 1 1 [] ++ second 1 1 1 [] ++ vacant ++ vacant)) ≡ ascii "next 1 digest 2 keys 0\n")
unfolding opened digits_in before in_order ascending present_of line_of lines_of text_unless area_text dump_text
both-editions = (refl, refl, refl, refl)
