use Rattle.std.proofs.Common.{◌+◌, ◌-◌, ◌<◌, map, length, ap, arith, rules}
use Rattle.matrix.proofs.Numbered.{many}
use Rattle.plans.specs.Refusals.{number_of}
use Rattle.trays.proofs.Places.{reads_it}
use Rattle.trays.proofs.Seats.{Seat, seated, some_number, unseated}
use Rattle.trays.proofs.Sums.{sum_first, sum_later, sum_still}
use Rattle.trays.proofs.tray.Tray.with_slip.Given as given
use Rattle.trays.proofs.tray.Tray.with_slip.Goals as goal
use Rattle.trays.proofs.tray.Tray.with_slip.Goals.{In-Ok}

-- Where the slip lies, and which it is.
seat : (g : given.Over) (c : In-Ok g) → Seat c.args.self.now.table.now.plan c.args.number (c.args.harbour - 1) c.in-Ok.place c.in-Ok.sign
seat g c =
    seated c.args.self.now.table.now.plan c.masks.result.now c.args.number c.args.harbour c.in-Ok.place c.in-Ok.sign c.masks.ensures.value
    (omega (arith, c.requires.asked.0, ap length c.masks.ensures.value, many c.args.self.now.table.now.plan)) c.requires.some c.requires.few c.in-Ok.ensures

there : (g : given.Over) (c : In-Ok g) → c.in-Ok.place + c.args.component < length c.args.self.now.slips.now
there g c = omega (arith, (seat g c).room, c.requires.asked.1, c.args.self.now.long)

pub bounds-masks-number : goal.bounds-masks-number
bounds-masks-number g c = omega (arith, c.requires.asked.0, ap length c.masks.ensures.value, many c.args.self.now.table.now.plan)

pub returns-in_default : goal.returns-in_default
returns-in_default g c =
    let p = c.args.self.now.table.now.plan in
    let out = unseated p c.masks.result.now c.args.number c.args.harbour (number_of c.in_default.field-0) c.masks.ensures.value
    (omega (arith, c.requires.asked.0, ap length c.masks.ensures.value, many p)) c.requires.some (some_number c.in_default.field-0) c.in_default.ensures in
    sum_still g.E.Element.group p (map g.E.Element.meaning c.args.self.now.slips.now) c.args.number c.args.component c.args.harbour (g.E.Element.meaning c.args.sum) c.requires.some out c.requires.before

pub overflow_add-slip : goal.overflow_add-slip
overflow_add-slip g c = search (rules, there g (goal.at.overflow_add-slip g c).In-Ok)

pub offset_bounds-self-place : goal.offset_bounds-self-place
offset_bounds-self-place g c = search (rules, there g (goal.at.offset_bounds-self-place g c).In-Ok)

pub bounds-self-place : goal.bounds-self-place
bounds-self-place g c = there g (goal.at.bounds-self-place g c).In-Ok

pub returns-then-sign-eq1 : goal.returns-then-sign-eq1
returns-then-sign-eq1 g c =
    let m = g.E.Element.meaning in
    let slips = c.args.self.now.slips.now in
    let ok = (goal.at.returns-then-sign-eq1 g c).In-Ok in
    let read = reads_it m slips (c.in-Ok.place + c.args.component) c.index-self-place.result g.E.Element.group.nil c.index-self-place.is (there g ok) in
    sum_first g.E.Element.group c.args.self.now.table.now.plan (map m slips) c.args.number c.args.component c.args.harbour c.in-Ok.place c.in-Ok.sign (m c.index-self-place.result) (m c.args.sum) (m c.sum.result)
    c.requires.some (seat g ok) c.if-sign-eq1.true read c.requires.before (search rules)

pub returns : goal.returns
returns g c =
    let m = g.E.Element.meaning in
    let slips = c.args.self.now.slips.now in
    let ok = (goal.at.returns g c).In-Ok in
    let read = reads_it m slips (c.in-Ok.place + c.args.component) c.index-self-place.result g.E.Element.group.nil c.index-self-place.is (there g ok) in
    sum_later g.E.Element.group c.args.self.now.table.now.plan (map m slips) c.args.number c.args.component c.args.harbour c.in-Ok.place c.in-Ok.sign (m c.index-self-place.result) (m c.args.sum) (m c.sum-else-sign-eq1.result)
    c.requires.some (seat g ok) c.if-sign-eq1.false read c.requires.before (search rules)
