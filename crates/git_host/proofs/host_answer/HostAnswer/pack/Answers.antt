use Rattle.std.proofs.Common.{arith, rules, tests, ℕ, List, [], ◌≡◌, length, ◌<◌, refl, subst, sym, ◌∙◌}
use Rattle.std.proofs.lemmas.Grind.{common_steps}
use Rattle.git_pkt.specs.Packets.{longest_payload}
use Rattle.git_host.specs.FetchPlaces.{ReportsAndGives, WhereAsked, with_pack}
use Rattle.git_host.specs.HostAnswers.{part_of}
use Rattle.git_host.specs.declared.report.Report.TheVariants.{Pack}
use Rattle.git_host.proofs.HostAnswerMoves.{fetch_gives, fetch_packet, part_fits, part_some, no_pack_goes}
use Rattle.git_host.proofs.host_answer.HostAnswer.pack.Goals as goal

pub pack-requires : goal.pack-requires
pack-requires g c = record {
  some = subst (λ (part : List ℕ). 0 < length part) (sym c.first_part.ensures) (part_some c.args.bytes.now (search (rules, tests)));
  fits = subst (λ (part : List ℕ). length part < longest_payload) (sym c.first_part.ensures) (part_fits c.args.bytes.now);
}

pub returns-then-is_empty : goal.returns-then-is_empty
returns-then-is_empty g c =
    let none : c.args.bytes.now ≡ [] = grind (arith, common_steps) in
    (no_pack_goes c.args.self.now c.args.bytes.now none, none)

pub returns : goal.returns
returns g c =
    let a = c.in-Fetch.answer in
    let b = c.pack.new.self in
    let bytes = c.pack.new.hold.items in
    fetch_packet a b c.args.self.now (Pack c.args.bytes) (with_pack (part_of c.args.bytes.now)) c.packet_where.result bytes c.pack.result c.in-Fetch.is
    c.packet_where.ensures (λ wanted. c.pack.ensures.asked ∙ wanted) (λ gives. fetch_gives a b (with_pack (part_of c.args.bytes.now)) bytes
    (λ t. refl) gives) (λ is. tt)
    (subst (λ (part : List ℕ). WhereAsked c.pack.result (ReportsAndGives (with_pack part) a bytes b) a b) c.first_part.ensures c.pack.ensures.reported)
