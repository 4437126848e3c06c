use Rattle.std.proofs.Common.{◌≡◌, ◌∙◌, Bor, List, ℕ, ap, refl, subst}
use Rattle.git_pkt.specs.Machine.BandReader.{AnnouncesBand, FeedsBand}
use Rattle.git_pkt.specs.declared.band.Band.{Band}
use Rattle.git_pkt.specs.declared.reader.BandFed.{BandFed}
use Rattle.git_pkt.specs.declared.reader.BandGot.{BandGot}
use Rattle.git_pkt.specs.declared.reader.BandGot.TheVariants.{Part}
use Rattle.git_pkt.specs.declared.reader.PacketReader.{PacketReader}
use Rattle.git_client.specs.Machine.Turns.{takes_packets}
use Rattle.git_client.specs.Machine.Client.{phase_of}
use Rattle.git_client.specs.declared.phase.Expected.TheVariants.{Packfile}
use Rattle.git_client.specs.declared.phase.Phase.TheVariants.{Receiving}
use Rattle.git_client.proofs.HandedOut.{answers, feeds_again, is_part, part_fits}
use Rattle.git_client.proofs.SameClients.{same_reader}
use Rattle.git_client.proofs.Taken.{taken_band}
use Rattle.git_client.proofs.client.Client.pass_whole.Goals as goal

pub returns-in_default-pass_whole-clause-feeds : goal.returns-in_default-pass_whole-clause-feeds
returns-in_default-pass_whole-clause-feeds g c =
    same_reader c.args.self.now c.pass_whole.new.self _ _ _ _ _ _ _ _ _ c.in_default-pass_whole.ensures.feeds

-- what the packet reader gave
announced : (fed : BandFed) (band : Band) (bytes : Bor (List ℕ)) (old new : PacketReader) (chunk : List ℕ) → FeedsBand old chunk fed new
    → fed.got ≡ Part band bytes → AnnouncesBand (Part band bytes) fed.used chunk new
announced fed band bytes old new chunk feeds is = subst (λ (got : BandGot). AnnouncesBand got fed.used chunk new) is feeds.announces

pub arrived-requires : goal.arrived-requires
arrived-requires g c =
    let part = announced c.in-Some.fed c.in-Part.band c.in-Part.bytes _ _ c.args.chunk.now c.in-Some.ensures.feeds c.in-Part.is in
    record {
      part = is_part c.in-Part.band c.in-Part.bytes.now c.args.chunk.now c.in-Some.fed.used _ _ part.0 part.1 refl c.in-Some.ensures.used;
      all = c.in-Some.ensures.used;
    }

pub returns-clause-feeds : goal.returns-clause-feeds
returns-clause-feeds g c =
    let old = c.args.self.now in
    let arrives : phase_of old ≡ Receiving Packfile = c.in-Receiving.is ∙ ap Receiving c.in-Packfile.is in
    let takes =
    taken_band old _ c.args.chunk.now c.in-Some.fed c.in-Part.band c.in-Part.bytes _ arrives
    (record { format = refl; any = refl; ending = refl; agent = refl }) c.in-Some.ensures.feeds c.in-Part.is refl arrives refl in
    feeds_again old _ c.args.chunk.now c.arrived.result c.in-Some.fed.used c.arrived.ensures.used
    (answers old _ c.args.chunk.now c.in-Some.fed.used (ap takes_packets arrives) c.in-Some.ensures.used _ c.arrived.result.got takes (λ e. cc) (λ e. cc)
    c.arrived.ensures.got).feeds

pub returns-clause-fits : goal.returns-clause-fits
returns-clause-fits g c =
    let part = announced c.in-Some.fed c.in-Part.band c.in-Part.bytes _ _ c.args.chunk.now c.in-Some.ensures.feeds c.in-Part.is in
    part_fits c.in-Part.band c.in-Part.bytes.now c.args.chunk.now c.in-Some.fed.used _ _ c.arrived.result.got part.1 refl c.in-Some.ensures.used
    c.arrived.ensures.got
