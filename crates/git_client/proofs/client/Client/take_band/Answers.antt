use Rattle.std.proofs.Common.{◌≡◌, Some, ap, refl, subst}
use Rattle.git_pkt.specs.Machine.BandReader.{AnnouncesBand}
use Rattle.git_pkt.specs.Machine.PacketReader.{fault_of as reader_fault_of}
use Rattle.git_pkt.specs.declared.reader.BandGot.{BandGot}
use Rattle.git_pkt.specs.declared.reader.BandGot.TheVariants.{Failed, More}
use Rattle.git_client.specs.Machine.Turns.{fault_in}
use Rattle.git_client.specs.declared.phase.Expected.TheVariants.{Packfile}
use Rattle.git_client.proofs.Taken.{fed_band_packet, fed_bands, settled, taken_all, taken_band, taken_failed}
use Rattle.git_client.proofs.client.Client.take_band.Goals as goal

pub returns-in-More-clause-takes : goal.returns-in-More-clause-takes
returns-in-More-clause-takes g c =
    let old = c.args.self.now in
    let fed = c.feed_band-fed.result in
    let reader = c.feed_band-fed.follows.lender-at-none in
    let feeds = c.feed_band-fed.follows.holds-at-none in
    let announces : AnnouncesBand More fed.used c.args.chunk.now reader =
    subst (λ (got : BandGot). AnnouncesBand got fed.used c.args.chunk.now reader) c.in-More.is feeds.announces in
    taken_all old _ Packfile c.args.chunk.now fed.used
    (fed_bands old _ c.args.chunk.now fed More c.requires.arrives (record { format = refl; any = refl; ending = refl; agent = refl }) feeds c.in-More.is)
    announces.0 announces.1 c.requires.arrives refl

pub returns-in-Part-clause-takes : goal.returns-in-Part-clause-takes
returns-in-Part-clause-takes g c =
    taken_band c.args.self.now _ c.args.chunk.now c.feed_band-fed.result c.in-Part.band c.in-Part.bytes _ c.requires.arrives
    (record { format = refl; any = refl; ending = refl; agent = refl })
    c.feed_band-fed.follows.holds-at-none c.in-Part.is refl c.requires.arrives refl

pub returns-in-Packet-clause-takes : goal.returns-in-Packet-clause-takes
returns-in-Packet-clause-takes g c =
    settled c.args.self.now _ c.settle-outcome.new.self Packfile c.args.chunk.now c.feed_band-fed.result.used _ c.judge-judged.result
    c.settle-outcome.result
    (fed_band_packet c.args.self.now _ c.args.chunk.now c.feed_band-fed.result c.in-Packet.packet c.in-Packet.offset c.requires.arrives
    c.feed_band-fed.ensures.used c.feed_band-fed.follows.holds-at-none c.in-Packet.is) c.feed_band-fed.ensures.used c.judge-judged.ensures.turn
    (record { format = refl; any = refl; ending = refl; agent = refl }) c.settle-outcome.ensures

pub returns-in-Failed-clause-takes : goal.returns-in-Failed-clause-takes
returns-in-Failed-clause-takes g c =
    let old = c.args.self.now in
    let fed = c.feed_band-fed.result in
    let fault = c.in-Failed.fault in
    let reader = c.feed_band-fed.follows.lender-at-none in
    let feeds = c.feed_band-fed.follows.holds-at-none in
    let announced : reader_fault_of reader ≡ Some fault =
    subst (λ (got : BandGot). AnnouncesBand got fed.used c.args.chunk.now reader) c.in-Failed.is feeds.announces in
    taken_failed old _ Packfile c.args.chunk.now fed.used fault
    (fed_bands old _ c.args.chunk.now fed (Failed fault) c.requires.arrives
    (record { format = refl; any = refl; ending = refl; agent = refl }) feeds c.in-Failed.is) announced
    (feeds.news fault (old.sound (ap fault_in c.requires.arrives)) c.in-Failed.is) refl refl
