use Rattle.clients.proofs.dealt.Goals as goal

pub returns-clause-dealt : goal.returns-clause-dealt
returns-clause-dealt g c = λ sheet. c.in_ok-record.ensures.deals.1 (λ _. 0) 0 0 sheet
