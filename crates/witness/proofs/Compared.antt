-- Two lists of events are held against each other as numbers, so that one test is computed over them; a law turns it into an equation.
-- What is proved of the definitions in `specs/Compared.antt`.
use Rattle.std.specs.Prelude.{ℕ, zero, suc, ◌≡◌, refl, List, [], ◌∷◌, length, get_or, drop}
use Rattle.std.proofs.Common.{sym, ◌∙◌, ap, ap₂, arith}
use Rattle.record.specs.declared.Expected.{Expected}
use Rattle.record.specs.declared.Expected.TheVariants.{Any, Only}
use Rattle.model.specs.Operations.{write, delete, clean}
use Rattle.model.specs.Refused.{Terms}
use Rattle.model.specs.Table.{failing, Hold}
use Rattle.model.proofs.Table.{rows-hold}
use Rattle.history.specs.Book.{reads, reads_value, tells, fewest, Call, starts, steps, switches, asks, recovers, Event, called, cut, scans, scans_value, converts, joins}
use Rattle.witness.specs.Compared.{call_numbers, compared, event_numbers, event_value, expected_number, key_from, tables_from}

expected_from : ℕ → Expected
expected_from zero = Any
expected_from (suc v) = Only (record { 0 = v })

abbrev terms_from : List ℕ → Terms
terms_from xs = record { expected = expected_from (get_or xs 0 0); tables = tables_from (drop 1 xs) }

call_from : ℕ → List ℕ → Call
call_from zero xs = steps
call_from (suc zero) xs = recovers (get_or xs 0 0) (get_or xs 1 0) (drop 2 xs)
call_from (suc (suc zero)) xs = asks (reads (tables_from xs) (key_from (drop 2 xs)))
call_from (suc (suc (suc zero))) xs = asks (reads_value (tables_from xs) (key_from (drop 2 xs)))
call_from (suc (suc (suc (suc zero)))) xs = starts (terms_from xs) (clean (get_or xs 3 0))
call_from (suc (suc (suc (suc (suc zero))))) xs = starts (terms_from xs) (delete (key_from (drop 3 xs)))
call_from (suc (suc (suc (suc (suc (suc zero)))))) xs = starts (terms_from xs) (write (key_from (drop 3 xs)) (drop 5 xs))
call_from (suc (suc (suc (suc (suc (suc (suc zero))))))) xs = asks tells
call_from (suc (suc (suc (suc (suc (suc (suc (suc zero)))))))) xs = asks fewest
call_from (suc (suc (suc (suc (suc (suc (suc (suc (suc zero))))))))) xs = asks (scans (get_or xs 0 0) (get_or xs 1 0) (tables_from (drop 2 xs)) (key_from (drop 4 xs)))
call_from (suc (suc (suc (suc (suc (suc (suc (suc (suc (suc zero)))))))))) xs =
    asks (scans_value (get_or xs 0 0) (get_or xs 1 0) (tables_from (drop 2 xs)) (key_from (drop 4 xs)))
call_from (suc (suc (suc (suc (suc (suc (suc (suc (suc (suc (suc zero))))))))))) xs = asks joins
call_from (suc (suc (suc (suc (suc (suc (suc (suc (suc (suc (suc (suc zero)))))))))))) xs = asks (converts (get_or xs 0 0) (get_or xs 1 0))
call_from (suc (suc (suc (suc (suc (suc (suc (suc (suc (suc (suc (suc (suc n))))))))))))) xs = switches

event_from : List ℕ → List ℕ → Event
event_from [] value = cut
event_from (x ∷ xs) value =
    called (call_from (get_or xs 7 0) (drop 8 xs)) (record { area = get_or xs 4 0; index = get_or xs 5 0; work = get_or xs 6 0 })
    (record {
      said = record { refused = x; stores = get_or xs 0 0; version = get_or xs 1 0; kind = get_or xs 2 0 };
      value = value;
      place = get_or xs 3 0;
    })

terms-back : (t : Terms) → record { expected = expected_from (expected_number t.expected); tables = t.tables } ≡ t
unfolding expected_number expected_from
terms-back t = ap (λ (e : Expected). record { expected = e; tables = t.tables }) (go t.expected)
  where
    go : (e : Expected) → expected_from (expected_number e) ≡ e
    go Any = refl
    go (Only v) = refl

event-back : (e : Event) → event_from (event_numbers e) (event_value e) ≡ e
unfolding call_numbers event_numbers event_value call_from event_from
event-back cut = refl
event-back (called steps l a) = refl
event-back (called (recovers n s order) l a) = refl
event-back (called (asks (reads t k)) l a) = refl
event-back (called (asks (reads_value t k)) l a) = refl
event-back (called (asks tells) l a) = refl
event-back (called (asks fewest) l a) = refl
event-back (called (asks (scans n s t k)) l a) = refl
event-back (called (asks (scans_value n s t k)) l a) = refl
event-back (called (asks joins) l a) = refl
event-back (called (asks (converts n s)) l a) = refl
event-back (called switches l a) = refl
event-back (called (starts t (clean victims)) l a) = ap (λ (x : Terms). called (starts x (clean victims)) l a) (terms-back t)
event-back (called (starts t (delete k)) l a) = ap (λ (x : Terms). called (starts x (delete k)) l a) (terms-back t)
event-back (called (starts t (write k value)) l a) = ap (λ (x : Terms). called (starts x (write k value)) l a) (terms-back t)

rows-equal : (xs ys : List Event) → Hold (compared xs ys) → xs ≡ ys
unfolding compared
rows-equal [] [] h = refl
rows-equal [] (y ∷ ys) h = let e = h.0 in let z : ◌≡◌ {A = ℕ} 0 1 = cc in absurd (omega arith)
rows-equal (x ∷ xs) [] h = let e = h.0 in let z : ◌≡◌ {A = ℕ} 0 1 = cc in absurd (omega arith)
rows-equal (x ∷ xs) (y ∷ ys) h =
    ap₂ ◌∷◌ (sym (event-back x) ∙ ap₂ event_from h.0 h.1.0 ∙ event-back y) (rows-equal xs ys h.1.1)

pub events-equal : (xs ys : List Event) → failing (compared xs ys) ≡ [] → xs ≡ ys
events-equal xs ys e = rows-equal xs ys (rows-hold (compared xs ys) e)
