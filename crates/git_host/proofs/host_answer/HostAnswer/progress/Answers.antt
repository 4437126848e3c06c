use Rattle.std.proofs.Common.{arith, rules, tests, ℕ, List, [], ◌≡◌, length, ◌<◌, subst, sym}
use Rattle.std.proofs.lemmas.Grind.{common_steps}
use Rattle.git_pkt.specs.Packets.{longest_payload}
use Rattle.git_host.specs.FetchPlaces.{ReportsProgress}
use Rattle.git_host.proofs.HostAnswerMoves.{fetch_progress, part_fits, part_some, no_progress_goes}
use Rattle.git_host.proofs.host_answer.HostAnswer.progress.Goals as goal

pub progress-requires : goal.progress-requires
progress-requires g c = record {
  some = subst (λ (part : List ℕ). 0 < length part) (sym c.first_part.ensures) (part_some c.args.bytes.now (search (rules, tests)));
  fits = subst (λ (part : List ℕ). length part < longest_payload) (sym c.first_part.ensures) (part_fits c.args.bytes.now);
}

pub returns-then-is_empty : goal.returns-then-is_empty
returns-then-is_empty g c =
    let none : c.args.bytes.now ≡ [] = grind (arith, common_steps) in
    (no_progress_goes c.args.self.now c.args.bytes.now none, none)

pub returns : goal.returns
returns g c =
    let a = c.in-Fetch.answer in
    let b = c.progress.new.self in
    let bytes = c.progress.new.hold.items in
    fetch_progress a b c.args.self.now c.args.bytes c.progress.result c.progress_as.result bytes c.in-Fetch.is c.progress_as.ensures
    c.progress.ensures.asked
    (subst (λ (part : List ℕ). ReportsProgress part c.progress.result a bytes b) c.first_part.ensures c.progress.ensures.reported)
