-- The search does not open the model, and takes no lemma over its fields.
use Rattle.std.proofs.Common.{ap, ◌∙◌, arith}
use Prim.Native.Nat.{ℕ}
use mathlib.Core.List.{List}
use Rattle.records.specs.Records.{record_at}
use Rattle.style_record.specs.Record.{style_words}
use Rattle.style_record.proofs.Replaced.{room, there, own, replaced, as_lent}
use Rattle.style_record.proofs.table.Table.record.Goals.{in_default-via-in-Some+else-by-item, in_default-via-in_default}
use Rattle.style_record.proofs.table.Table.record.Goals as goal

pub offset_bounds-self-inside-item : goal.offset_bounds-self-inside-item
offset_bounds-self-inside-item c =
    let h = room c.self.inside.lent.now c.self.inside.replacement c.args.item c.self.view_is c.requires in
    let told = c.self.told in
    record { fits = omega (arith, h, told.1) }

pub bounds-self-inside-item : goal.bounds-self-inside-item
bounds-self-inside-item c = there c.self.inside.lent.now c.self.inside.replacement c.args.item c.self.invariant c.self.view_is c.requires

pub returns-in-Some : goal.returns-in-Some
returns-in-Some c =
    replaced c.self.inside.lent.now c.self.inside.replacement c.in-Some.by c.args.item c.self.invariant.1 c.self.view_is c.in-Some.is c.if-by-item.true c.requires

pub returns-in_default : goal.returns-in_default
returns-in_default c =
    own c.self.inside.lent.now c.self.inside.replacement c.args.item c.self.invariant c.self.view_is c.requires
    ∙ elim c.in_default.branch [
      | in_default-via-in-Some+else-by-item w ↦
          as_lent c.self.inside.lent.now c.self.inside.replacement w.in-Some.by c.args.item c.self.invariant.1 c.self.view_is w.in-Some.is w.if-by-item.false
      | in_default-via-in_default w ↦ ap (λ (t : List ℕ). record_at style_words t c.args.item) (rw w.in_default.is at c.self.view_is)
    ]
