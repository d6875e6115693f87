-- `telling::tell::place_of` meets its contract: a law for each return, at the tests that led there, for every work buffer of that length.
use mathlib.Core.Path.{◌≡◌, sym, ◌∙◌, ap}
use mathlib.Core.List.{List}
use Prim.Native.Nat.{ℕ}
use native.Mathlib.Omega.{arith}
use lib.ListN.{length, replicate, length-replicate}
use Rattle.record.specs.Answers.{stores_left}
use Rattle.laws.specs.OperationsKept.{edition-laws}
use Rattle.telling.specs.Agree.{agrees_with}
use Rattle.telling.specs.Next.{target_of, next_store}
use Rattle.telling.proofs.NextLaws.{target_first, target_left, next-target}
use Rattle.telling.proofs.ToldLaws.{tell-lent, tell-short, tell_none, tell-unfit, tell-nowhere, tell-place, tell-at}
use Rattle.telling.specs.Places.{filled}
use Rattle.telling.proofs.PlaceLaws.{filled_next, copies-slot, place-refused, place-told}
use Rattle.telling.specs.declared.Aim.{Aim}
use Rattle.telling.proofs.tell.place_of.Goals as goal
use Rattle.telling.proofs.tell.place_of.Goals.{After-aim_of-aim, After-next_place}

-- what the operation's aim says: the stores left, whether it agrees, and where its bytes go
left_is : (k : After-aim_of-aim) → k.aim_of-aim.result.to.left ≡ stores_left k.args.rec.pending
left_is k = target_left _ _ _ (ap (λ (a : Aim). a.to) k.aim_of-aim.ensures)

agrees-is : (k : After-aim_of-aim) → k.aim_of-aim.result.agreed ≡ agrees_with k.args.rec.edition k.args.rec k.args.rec.pending
agrees-is k = ap (λ (a : Aim). a.agreed) k.aim_of-aim.ensures

to_is : (k : After-aim_of-aim)
    → let r = k.args.rec in k.aim_of-aim.result.to ≡ target_of r.pending r.head r.end
to_is k = ap (λ (a : Aim). a.to) k.aim_of-aim.ensures

pub aim_of-aim-requires : goal.aim_of-aim-requires
aim_of-aim-requires c = (tell-lent _ (edition-laws _) c.args.rec c.args.area.now (replicate {A = ℕ} 0 0) c.requires).slots-high

pub returns-then-work-rec : goal.returns-then-work-rec
returns-then-work-rec c = place-refused _ _ _ _ _ (λ w e. tell-short _ (edition-laws _) c.args.rec c.args.area.now w c.requires (omega (arith, e, c.if-work-rec.true)))

pub returns-then-to-eq0 : goal.returns-then-to-eq0
returns-then-to-eq0 c =
    place-refused _ _ _ _ _ (λ w e. tell_none _ (edition-laws _) c.args.rec c.args.area.now w c.requires (omega (arith, e, c.if-work-rec.false)) (left_is (goal.at.returns-then-to-eq0 c).After-aim_of-aim) c.if-to-eq0.true)

pub returns-then-not-aim : goal.returns-then-not-aim
returns-then-not-aim c =
    place-refused _ _ _ _ _ (λ w l. tell-unfit _ (edition-laws _) c.args.rec c.args.area.now w c.requires (omega (arith, l, c.if-work-rec.false)) (left_is (goal.at.returns-then-not-aim c).After-aim_of-aim) c.if-to-eq0.false (agrees-is (goal.at.returns-then-not-aim c).After-aim_of-aim) c.if-not-aim.true)

pub next_place-requires : goal.next_place-requires
next_place-requires c = target_first _ _ _ (to_is (goal.at.next_place-requires c).After-aim_of-aim)

-- the store that is found, with a work buffer of that length
next-is : (p : After-next_place)
    → let a = p.args in (w : List ℕ) → length w ≡ a.work → filled w p.next_place.result ≡ next_store (length a.area.now) w a.rec
next-is p w l = next-target _ _ _ ((ap (λ (a : Aim). a.to) p.aim_of-aim.ensures)) (filled_next _ _ _ _ p.next_place.ensures w l)

pub overflow_cast-result : goal.overflow_cast-result
unfolding filled
overflow_cast-result c =
    let w = replicate {A = ℕ} c.args.work 0 in
    let l = length-replicate {A = ℕ} c.args.work 0 in
    record {
      fits =
          tell-place _ (edition-laws _) c.args.rec c.args.area.now w c.requires (omega (arith, l, c.if-work-rec.false)) (left_is (goal.at.overflow_cast-result c).After-aim_of-aim) c.if-to-eq0.false (agrees-is (goal.at.overflow_cast-result c).After-aim_of-aim) c.if-not-aim.false
          (next-is (goal.at.overflow_cast-result c).After-next_place w l) _ _ (ap (filled w) c.in-Some.is);
    }

pub overflow_cast-result-2 : goal.overflow_cast-result-2
overflow_cast-result-2 c =
    record {
      fits =
          omega (arith, (copies-slot _ _ _ _ _ _ _ _ _ _ _ (sym c.next_place.ensures ∙ c.in-Some.is)).0);
    }

pub returns-in_default : goal.returns-in_default
unfolding filled
returns-in_default c =
    place-refused _ _ _ _ _
    (λ w l.
    tell-nowhere _ (edition-laws _) c.args.rec c.args.area.now w c.requires (omega (arith, l, c.if-work-rec.false)) (left_is (goal.at.returns-in_default c).After-aim_of-aim) c.if-to-eq0.false (agrees-is (goal.at.returns-in_default c).After-aim_of-aim) c.if-not-aim.false
    (next-is (goal.at.returns-in_default c).After-next_place w l) (ap (filled w) c.in_default.is))

pub returns : goal.returns
unfolding filled
returns c =
    place-told _ _ _ _ _ _ _
    (λ w l.
    tell-at _ (edition-laws _) c.args.rec c.args.area.now w c.requires (omega (arith, l, c.if-work-rec.false)) (left_is (goal.at.returns c).After-aim_of-aim) c.if-to-eq0.false (agrees-is (goal.at.returns c).After-aim_of-aim) c.if-not-aim.false
    (next-is (goal.at.returns c).After-next_place w l) _ _ (ap (filled w) c.in-Some.is))
    (copies-slot _ _ _ _ _ _ _ _ _ _ _ (sym c.next_place.ensures ∙ c.in-Some.is)).1
