use Rattle.yl_tree.proofs.Names.{pushed}
use Rattle.yl_tree.proofs.messages.push_number.Goals as goal

pub returns : goal.returns
returns g c =
    pushed _ _ _ _ _ _ _ _ _ _ _ c.in_ok-push_str.ensures.bytes c.in_ok-push.ensures.bytes (c.push.ensures.ascii c.digit.ensures.ascii) c.digit.ensures.value
    c.in_ok-push-2.ensures.bytes (c.push-2.ensures.ascii c.digit-2.ensures.ascii) c.digit-2.ensures.value
