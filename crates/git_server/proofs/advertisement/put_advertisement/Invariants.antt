use Rattle.std.proofs.Common.{◌≡◌, ◌++◌, length}
use Rattle.git_server.specs.Machine.AdvertisementLines.{advertisement_after}
use Rattle.git_server.specs.Answers.{advertisement_of, spelled}
use Rattle.git_server.proofs.advertisement.put_advertisement.Given as goal

-- what was written, and the lines that are left, are the whole advertisement
abbrev pub invariant-loop-next : goal.invariant-loop-next
invariant-loop-next l = l.hold.items ++ spelled (advertisement_after l.offer l.next) ≡ spelled (advertisement_of l.offer)

abbrev pub decreases-loop-next : goal.decreases-loop-next
decreases-loop-next l = length (advertisement_after l.offer l.next)
