-- The edition of a walk that is compiled once for each of them.
use Rattle.std.specs.Prelude.{Bool, true, false}
use Rattle.segment.specs.Layout.{Layout, edition1, edition2}

unfoldable pub edition_if : Bool → Layout
edition_if true = edition2
edition_if false = edition1
