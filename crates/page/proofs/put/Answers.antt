use Rattle.page.proofs.Pages.{put_is}
use Rattle.page.proofs.put.Goals as goal

pub returns : goal.returns
returns c = put_is _ _ _
