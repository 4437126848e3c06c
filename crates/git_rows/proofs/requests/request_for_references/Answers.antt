use Rattle.std.proofs.Common.{◌≡◌, [], ◌∷◌, codes, ap, arith}
use Rattle.git_msg.specs.Asked.{Asked, arguments_in, ref_prefixes_in}
use Rattle.git_msg.proofs.LineLaws.{one_request}
use Rattle.git_rows.specs.Worked.{ls_refs_packets, offer_all}
use Rattle.git_rows.proofs.RequestLines.{asks_ls_refs}
use Rattle.git_rows.proofs.requests.request_for_references.Goals as goal

pub returns-clause-asks : goal.returns-clause-asks
returns-clause-asks c = asks_ls_refs 0

pub returns-clause-not_for_a_prefix : goal.returns-clause-not_for_a_prefix
returns-clause-not_for_a_prefix c = λ h.
    let same = one_request offer_all 0 ls_refs_packets _ _ _ _ h (asks_ls_refs 0) in
    let prefixes : codes "refs/" ∷ [] ≡ [] = ap (λ (q : Asked). ref_prefixes_in (arguments_in q)) same.0 in
    cc

pub returns-clause-not_of_more_bytes : goal.returns-clause-not_of_more_bytes
returns-clause-not_of_more_bytes c = λ h.
    let same = one_request offer_all 0 ls_refs_packets _ _ _ _ h (asks_ls_refs 0) in
    let bytes : 1 ≡ 0 = same.1 in
    omega (arith, bytes)
