use Rattle.std.proofs.Common.{◌≡◌, ◌+◌}
use Rattle.rehearsal.specs.Rounds.{StillLends}
use Rattle.rehearsal.proofs.rounds.Lent.renew_times.Given as goal

abbrev pub invariant-loop : goal.invariant-loop
invariant-loop g l = (l.self.book.now.round ≡ l.initial.self.book.now.round + l.counter) × StillLends l.initial.self l.self
