-- The rows of `specs/Rows.antt`, computed. Assumes nothing.
use mathlib.Core.Path.{refl}
use Rattle.style.specs.Resolve.{by_tag, resolved, takes}
use Rattle.style_record.specs.Record.{length_field, length_kinds, code_kinds, kind_of, items}
use Rattle.style_record.specs.Check.{safety_breaks, breaks_as, breaks_rule, first_from, first_broken, or_rest, checked_from, checked}
use Rattle.style_record.specs.Rows.{TagRows, SumTagRows, CodeRows, SafetyRows, TableRows}

pub tag_rows : TagRows
unfolding checked checked_from or_rest first_broken first_from breaks_rule breaks_as safety_breaks items kind_of length_field length_kinds code_kinds takes resolved by_tag
tag_rows = (refl, refl, refl, refl, refl, refl, refl, refl, refl, refl, refl, refl, refl, refl, refl, refl, refl, refl, refl, refl, refl)

pub sum_tag_rows : SumTagRows
unfolding checked checked_from or_rest first_broken first_from breaks_rule breaks_as safety_breaks items kind_of length_field length_kinds code_kinds takes resolved by_tag
sum_tag_rows = (refl, refl, refl, refl, refl, refl, refl, refl, refl, refl, refl)

pub code_rows : CodeRows
unfolding checked checked_from or_rest first_broken first_from breaks_rule breaks_as safety_breaks items kind_of length_field length_kinds code_kinds takes resolved by_tag
code_rows = (refl, refl, refl, refl, refl, refl, refl, refl, refl, refl, refl, refl, refl)

pub safety_rows : SafetyRows
unfolding checked checked_from or_rest first_broken first_from breaks_rule breaks_as safety_breaks items kind_of length_field length_kinds code_kinds takes resolved by_tag
safety_rows = (refl, refl, refl, refl, refl, refl, refl, refl, refl)

pub table_rows : TableRows
unfolding checked checked_from or_rest first_broken first_from breaks_rule breaks_as safety_breaks items kind_of length_field length_kinds code_kinds takes resolved by_tag
table_rows = (refl, refl, refl, refl, refl, refl, refl, refl, refl)
