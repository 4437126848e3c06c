use Rattle.std.proofs.Common.{◌≡◌, Some, ap, refl, subst}
use Rattle.git_pkt.specs.Machine.PacketReader.{Announces, fault_of as reader_fault_of}
use Rattle.git_pkt.specs.declared.reader.Got.{Got}
use Rattle.git_pkt.specs.declared.reader.Got.TheVariants.{Failed, More}
use Rattle.git_client.specs.Machine.Turns.{fault_in}
use Rattle.git_client.proofs.Taken.{fed_bytes, fed_packet, settled, taken_all, taken_failed}
use Rattle.git_client.proofs.client.Client.take_packet.Goals as goal

pub returns-in-More-clause-takes : goal.returns-in-More-clause-takes
returns-in-More-clause-takes g c =
    let old = c.args.self.now in
    let fed = c.feed-fed.result in
    let reader = c.feed-fed.follows.lender-at-none in
    let feeds = c.feed-fed.follows.holds-at-none in
    let announces : Announces More fed.used c.args.chunk.now reader =
    subst (λ (got : Got). Announces got fed.used c.args.chunk.now reader) c.in-More.is feeds.announces in
    taken_all old _ c.args.expected c.args.chunk.now fed.used
    (fed_bytes old _ c.args.expected c.args.chunk.now fed More c.requires.arrives c.requires.no_band
    (record { format = refl; any = refl; ending = refl; agent = refl }) feeds c.in-More.is) announces.0 announces.1
    c.requires.arrives refl

pub returns-in-Packet-clause-takes : goal.returns-in-Packet-clause-takes
returns-in-Packet-clause-takes g c =
    settled c.args.self.now _ c.settle-outcome.new.self c.args.expected c.args.chunk.now c.feed-fed.result.used _ c.judge-judged.result
    c.settle-outcome.result
    (fed_packet c.args.self.now _ c.args.expected c.args.chunk.now c.feed-fed.result c.in-Packet.packet c.in-Packet.offset c.requires.arrives
    c.requires.no_band c.feed-fed.ensures.used c.feed-fed.follows.holds-at-none c.in-Packet.is) c.feed-fed.ensures.used c.judge-judged.ensures.turn
    (record { format = refl; any = refl; ending = refl; agent = refl }) c.settle-outcome.ensures

pub returns-in-Failed-clause-takes : goal.returns-in-Failed-clause-takes
returns-in-Failed-clause-takes g c =
    let old = c.args.self.now in
    let fed = c.feed-fed.result in
    let fault = c.in-Failed.fault in
    let reader = c.feed-fed.follows.lender-at-none in
    let feeds = c.feed-fed.follows.holds-at-none in
    let announced : reader_fault_of reader ≡ Some fault =
    subst (λ (got : Got). Announces got fed.used c.args.chunk.now reader) c.in-Failed.is feeds.announces in
    taken_failed old _ c.args.expected c.args.chunk.now fed.used fault
    (fed_bytes old _ c.args.expected c.args.chunk.now fed (Failed fault) c.requires.arrives c.requires.no_band
    (record { format = refl; any = refl; ending = refl; agent = refl }) feeds c.in-Failed.is) announced
    (feeds.news fault (old.sound (ap fault_in c.requires.arrives)) c.in-Failed.is) refl refl
