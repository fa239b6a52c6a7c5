-- The codes of a static edge (document 01, "Candidate, 13 words"). A code outside its list is read as the last one: it is refused before.
-- Assumes nothing.
use Rattle.std.specs.Prelude.{ℕ, cond, eqb}
use Rattle.tree.specs.declared.layout.AxisStaticEdge.{AxisStaticEdge}
use Rattle.tree.specs.declared.layout.AxisStaticEdge.TheVariants.{Start, Center, End}

unfoldable pub edge_code : AxisStaticEdge → ℕ
edge_code Start = 0
edge_code Center = 1
edge_code End = 2

unfoldable pub edge_of : ℕ → AxisStaticEdge
edge_of n = cond (eqb n 0) Start (cond (eqb n 1) Center End)
