use Rattle.std.proofs.Common.{◌++◌, List, ℕ, take, refl, ap, ◌∙◌, append-nil}
use Rattle.git2show_lib.specs.Machine.Checker.{fed_with}
use Rattle.git2show_lib.specs.Machine.KeptLines.{noted_in}
use Rattle.git2show_lib.specs.declared.checker.Turn.TheVariants.{Request, Passing, End, Over}
use Rattle.git2show_lib.proofs.CheckerStands.{check_of, fits_in, sound_in, stands_as, still_sound, stood}
use Rattle.git2show_lib.proofs.CheckerRequests.{brought, passing_begins, reading_refused, reads_of, stop_fed, whole_fed, with_lines}
use Rattle.git2show_lib.proofs.CheckRuns.{reads_on}
use Rattle.git2show_lib.proofs.CheckerEnds.{shown_in}
use Rattle.git2show_lib.proofs.CheckerSteps.{nothing_gathered}
use Rattle.git2show_lib.proofs.checker.Checker.feed_request.Goals as goal

pub feed-read-requires : goal.feed-read-requires
feed-read-requires g c = (sound_in c.args.self.now Request c.requires.turn).1

pub invariant_of-self : goal.invariant_of-self
invariant_of-self g c =
    let feeds = brought c.feed-read.result c.in-More.is c.feed-read.ensures.feeds in
    record { sound = still_sound c.args.self.now _ c.requires.turn feeds.leaves.1; fits = c.args.self.now.fits }

pub invariant_of-self-in-Request-1 : goal.invariant_of-self-in-Request-1
invariant_of-self-in-Request-1 g c =
    let feeds = brought c.feed-read.result c.in-Request.is c.feed-read.ensures.feeds in
    record { sound = still_sound c.args.self.now _ c.requires.turn feeds.leaves.0.onward; fits = c.args.self.now.fits }

pub ask-requires-clause-turn : goal.ask-requires-clause-turn
ask-requires-clause-turn g c = c.requires.turn

pub ask-requires-clause-none_waits : goal.ask-requires-clause-none_waits
ask-requires-clause-none_waits g c = c.requires.none_waits

pub invariant_of-self-in-Other : goal.invariant_of-self-in-Other
invariant_of-self-in-Other g c =
    let feeds = brought c.feed-read.result c.in-Other.is c.feed-read.ensures.feeds in
    record {
      sound = ((sound_in c.args.self.now Request c.requires.turn).0, feeds.leaves.onward, (c.new-self.ensures.sound, c.new-self.ensures.gathers));
      fits = fits_in c.args.self.now Request c.requires.turn;
    }

pub invariant_of-self-in-Stop : goal.invariant_of-self-in-Stop
invariant_of-self-in-Stop g c = record { sound = tt; fits = let fits = fits_in c.args.self.now Request c.requires.turn in (fits.0, fits.2) }

pub returns-in-More-clause-used : goal.returns-in-More-clause-used
returns-in-More-clause-used g c = c.feed-read.ensures.used

pub returns-in-Request-clause-used : goal.returns-in-Request-clause-used
returns-in-Request-clause-used g c = c.feed-read.ensures.used

pub returns-in-Other-clause-used : goal.returns-in-Other-clause-used
returns-in-Other-clause-used g c = c.feed-read.ensures.used

pub returns-in-Stop-clause-used : goal.returns-in-Stop-clause-used
returns-in-Stop-clause-used g c = c.feed-read.ensures.used

pub returns-in-Failed-clause-used : goal.returns-in-Failed-clause-used
returns-in-Failed-clause-used g c = c.shown_by.ensures.within

pub returns-in-More-clause-carries : goal.returns-in-More-clause-carries
returns-in-More-clause-carries g c t limit requests responses lent k =
    let was = (stood c.args.self.now Request c.requires.turn k).0 in
    let feeds = brought c.feed-read.result c.in-More.is c.feed-read.ensures.feeds in
    let on = reads_on was.checking (reads_of feeds) in
    stands_as _ Request c.requires.turn (check_of k)
    (record { checking = on; ready = feeds.leaves.1 }, λ some. absurd (some c.requires.none_waits))

pub returns-in-Request-clause-carries : goal.returns-in-Request-clause-carries
returns-in-Request-clause-carries g c t limit requests responses lent k =
    let was = (stood c.args.self.now Request c.requires.turn k).0 in
    let feeds = brought c.feed-read.result c.in-Request.is c.feed-read.ensures.feeds in
    let quietly = with_lines (ap (λ (l : List ℕ). lent ++ l) c.requires.none_waits ∙ append-nil lent) (reads_on was.checking (reads_of feeds)) in
    let used = take c.feed-read.result.used c.args.chunk.now in
    c.ask.ensures.asks t limit (fed_with requests used) responses lent (check_of k) (rw c.in-Request.is quietly)
    (whole_fed feeds.leaves.0) (rw c.in-Request.is feeds.leaves.1)

pub returns-in-Other-clause-carries : goal.returns-in-Other-clause-carries
returns-in-Other-clause-carries g c t limit requests responses lent k =
    let was = (stood c.args.self.now Request c.requires.turn k).0 in
    let feeds = brought c.feed-read.result c.in-Other.is c.feed-read.ensures.feeds in
    let quietly = with_lines (ap (λ (l : List ℕ). lent ++ l) c.requires.none_waits ∙ append-nil lent) (reads_on was.checking (reads_of feeds)) in
    let none = nothing_gathered c.args.self.now.lines (noted_in c.args.self.now.others).lines c.requires.none_waits in
    stands_as _ Passing refl (check_of k) (rw (c.in-Other.others-is, none)
    (passing_begins quietly (whole_fed feeds.leaves) c.new-self.ensures.reads c.new-self.ensures.sound c.new-self.ensures.gathers))

pub returns-in-Stop-clause-carries : goal.returns-in-Stop-clause-carries
returns-in-Stop-clause-carries g c t limit requests responses lent k =
    let was = (stood c.args.self.now Request c.requires.turn k).0 in
    let fits = fits_in c.args.self.now Request c.requires.turn in
    let feeds = brought c.feed-read.result c.in-Stop.is c.feed-read.ensures.feeds in
    stands_as _ End refl (check_of k) (record { checking = reads_on was.checking (reads_of feeds); over = rw fits.1 (stop_fed feeds) })

pub returns-in-Failed-clause-carries : goal.returns-in-Failed-clause-carries
returns-in-Failed-clause-carries g c t limit requests responses lent k =
    let was = (stood c.args.self.now Request c.requires.turn k).0 in
    let fits = fits_in c.args.self.now Request c.requires.turn in
    let feeds = brought c.feed-read.result c.in-Failed.is c.feed-read.ensures.feeds in
    stands_as _ (Over _) refl (check_of k) (rw (fits.1, fits.2)
    (reading_refused requests.bytes c.in-Failed.fault (reads_on was.checking (reads_of feeds)) feeds.leaves (feeds.news c.in-Failed.fault refl).not_the_end
    (shown_in _ _ _ _ c.shown_by.ensures.shown (feeds.news c.in-Failed.fault refl).one_more) _))

pub shown_by-requires : goal.shown_by-requires
shown_by-requires g c =
    let feeds = brought c.feed-read.result c.in-Failed.is c.feed-read.ensures.feeds in
    record { within = c.feed-read.ensures.used; one_more = (feeds.news c.in-Failed.fault refl).one_more }
