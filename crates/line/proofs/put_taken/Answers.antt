use Rattle.line.proofs.PutLaws.{taken-put}
use Rattle.line.proofs.put_taken.Goals as goal

pub returns : goal.returns
returns c =
    let members = c.put_members-k in
    taken-put _ _ _ _ _ _ members.ensures.1 members.ensures.2 c.requires.1 members.ensures.0 c.put_zeros.ensures
