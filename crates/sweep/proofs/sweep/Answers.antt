-- The check lacks that the tests of room decide the branch of `swept`, and that a move keeps how many go to a list.
use Rattle.std.proofs.Common.{refl, sym, ◌∙◌, arith}
use Rattle.records.proofs.Laws.{room_words}
use Rattle.sweep.specs.Sweep.{candidates_in}
use Rattle.sweep.proofs.Steps.{no_room_in, no_room_out, room_both}
use Rattle.sweep.proofs.sweep.Goals as goal

pub returns-then-not-has_room : goal.returns-then-not-has_room
returns-then-not-has_room c =
    let d = rw c.count-inside.ensures at (sym c.has_room.ensures ∙ c.if-not-has_room.true) in
    rw (no_room_in _ _ _ _ c.args.unclaimed.now c.args.filled d) (record { answer = refl; working = refl; unclaimed = refl })

pub returns-then-not-has_room-2 : goal.returns-then-not-has_room-2
returns-then-not-has_room-2 c =
    let d = rw c.count-inside.ensures at (sym c.has_room.ensures ∙ c.if-not-has_room.false) in
    let e = rw c.count-outside.ensures at (sym c.has_room-2.ensures ∙ c.if-not-has_room-2.true) in
    rw (no_room_out _ _ _ _ _ _ d e) (record { answer = refl; working = refl; unclaimed = refl })

pub overflow_add-after : goal.overflow_add-after
overflow_add-after c =
    let q = room_words _ _ _ _ (sym c.has_room.ensures ∙ c.if-not-has_room.false) in
    omega arith

pub overflow_add-after-2 : goal.overflow_add-after-2
overflow_add-after-2 c =
    let q = room_words _ _ _ _ (sym c.has_room-2.ensures ∙ c.if-not-has_room-2.false) in
    omega arith

pub append-requires : goal.append-requires
append-requires c =
    let q = room_words _ _ _ _ (sym c.has_room.ensures ∙ c.if-not-has_room.false) in
    rw c.count-inside.ensures at q

pub append-requires-2 : goal.append-requires-2
append-requires-2 c =
    let q = room_words _ _ _ _ (sym c.has_room-2.ensures ∙ c.if-not-has_room-2.false) in
    rw c.count-outside.ensures at q

pub returns : goal.returns
returns c =
    let a = c.args in
    let i = c.count-inside.ensures in
    let o = c.count-outside.ensures in
    let d = rw (c.has_room.ensures, i) at c.if-not-has_room.false in
    let e = rw (c.has_room-2.ensures, o) at c.if-not-has_room-2.false in
    rw (room_both a.claims a.shift (candidates_in a.candidates.now) a.working.now a.unclaimed.now a.filled d e)
    (record { answer = rw (i, o) refl; working = c.append.ensures; unclaimed = c.append-2.ensures })
