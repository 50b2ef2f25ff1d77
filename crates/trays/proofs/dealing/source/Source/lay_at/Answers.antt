use Rattle.std.proofs.Common.{◌≡◌, ◌+◌, ◌-◌, length, rules}
use Rattle.trays.proofs.Parts.{front_written}
use Rattle.trays.proofs.dealing.source.Source.lay_at.Goals as goal

pub returns-clause-laid : goal.returns-clause-laid
returns-clause-laid g c =
    let k = c.args.self.now.size in
    let kept : length c.lay.new.to ≡ k = search rules in
    front_written g.E.Element.meaning c.args.place k (c.args.place + k - c.args.place) c.args.tray.now c.lay.new.to _ c.requires.room c.lay.ensures kept
