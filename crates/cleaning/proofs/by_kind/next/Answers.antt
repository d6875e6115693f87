-- `cleaning::by_kind::next` meets its contract: each arm is a row of the table of kinds.
use mathlib.Core.Path.{refl}
use borrow.Author.Rules.{rules}
use Rattle.segment.specs.Choice.{pick, both}
use Rattle.segment.specs.Layout.{lookup, value_length, table, other_layout}
use Rattle.segment.specs.Kinds.{size_or_zero}
use Rattle.cleaning.specs.ByKind.{kind_test}
use Rattle.cleaning.proofs.ByKind.{kind-stands, no-entry-kind, next_past, next-at-end, next-kind-end, next-unknown}
use Rattle.cleaning.proofs.by_kind.next.Goals as goal

pub returns-then-s-at : goal.returns-then-s-at
returns-then-s-at c = search (next_past, rules)

pub returns-then-s-at-2 : goal.returns-then-s-at-2
returns-then-s-at-2 c = search (next-at-end, rules)

pub next_of-requires : goal.next_of-requires
unfolding kind_test table lookup value_length size_or_zero other_layout pick both
next_of-requires c = kind-stands _ _ _ _ _ c.if-s-at-2.false 1 c.in-1.is refl

pub next_of-requires-in-2 : goal.next_of-requires-in-2
unfolding kind_test table lookup value_length size_or_zero other_layout pick both
next_of-requires-in-2 c = kind-stands _ _ _ _ _ c.if-s-at-2.false 2 c.in-2.is refl

pub next_of-requires-in-3 : goal.next_of-requires-in-3
unfolding kind_test table lookup value_length size_or_zero other_layout pick both
next_of-requires-in-3 c = kind-stands _ _ _ _ _ c.if-s-at-2.false 3 c.in-3.is refl

pub next_of-requires-in-4 : goal.next_of-requires-in-4
unfolding kind_test table lookup value_length size_or_zero other_layout pick both
next_of-requires-in-4 c = kind-stands _ _ _ _ _ c.if-s-at-2.false 4 c.in-4.is refl

pub next_of-requires-in-7 : goal.next_of-requires-in-7
unfolding kind_test table lookup value_length size_or_zero other_layout pick both
next_of-requires-in-7 c = kind-stands _ _ _ _ _ c.if-s-at-2.false 7 c.in-7.is refl

pub next_of-requires-in-9 : goal.next_of-requires-in-9
unfolding kind_test table lookup value_length size_or_zero other_layout pick both
next_of-requires-in-9 c = kind-stands _ _ _ _ _ c.if-s-at-2.false 9 c.in-9.is refl

pub next_of-requires-in-10 : goal.next_of-requires-in-10
unfolding kind_test table lookup value_length size_or_zero other_layout pick both
next_of-requires-in-10 c = kind-stands _ _ _ _ _ c.if-s-at-2.false 10 c.in-10.is refl

pub next_of-requires-in-11 : goal.next_of-requires-in-11
unfolding kind_test table lookup value_length size_or_zero other_layout pick both
next_of-requires-in-11 c = kind-stands _ _ _ _ _ c.if-s-at-2.false 11 c.in-11.is refl

pub next_of-requires-in-12 : goal.next_of-requires-in-12
unfolding kind_test table lookup value_length size_or_zero other_layout pick both
next_of-requires-in-12 c = kind-stands _ _ _ _ _ c.if-s-at-2.false 12 c.in-12.is refl

pub next_of-requires-in-13 : goal.next_of-requires-in-13
unfolding kind_test table lookup value_length size_or_zero other_layout pick both
next_of-requires-in-13 c = kind-stands _ _ _ _ _ c.if-s-at-2.false 13 c.in-13.is refl

pub returns-in-0 : goal.returns-in-0
returns-in-0 c = next-kind-end _ _ _ c.if-s-at-2.false c.in-0.is

pub returns-in_default : goal.returns-in_default
returns-in_default c =
    let none_of = c.in_default.in_default-own.rest in
    next-unknown _ _ _ c.if-s-at-2.false none_of.0.0.0.0.0.0.0.0.0.0.1
    (no-entry-kind _ none_of.0.0.0.0.0.0.0.0.0.1 none_of.0.0.0.0.0.0.0.0.1 none_of.0.0.0.0.0.0.0.1 none_of.0.0.0.0.0.0.1 none_of.0.0.0.0.0.1 none_of.0.0.0.0.1 none_of.0.0.0.1 none_of.0.0.1 none_of.0.1 none_of.1 _)
