use Rattle.coverage.specs.Says.{put_tried}
use Rattle.coverage.proofs.put_tried.Goals as goal

pub returns-then-settings : goal.returns-then-settings
unfolding put_tried
returns-then-settings c =
    rw (c.if-settings.true, ← c.first_switch.ensures) c.put_explored.ensures

pub returns : goal.returns
unfolding put_tried
returns c =
    rw (c.if-settings.false, ← c.first_switch-2.ensures) c.put_off.ensures
