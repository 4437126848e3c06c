use Rattle.std.proofs.Common.{◌≡◌, true, false, [], ◌∷◌, codes, ap, map}
use Rattle.git_msg.specs.Asked.{Asked, has_flag}
use Rattle.git_msg.specs.Kept.{Kept}
use Rattle.git2show_lib.proofs.ScriptLaws.{one_script}
use Rattle.git_rows.specs.Worked.{offer_all}
use Rattle.git_rows.proofs.Scripts.{script}
use Rattle.git_rows.proofs.texts.requests_of_a_script.Goals as goal
use Rattle.git_msg.specs.declared.flags.Flag.{Flag}

pub returns-clause-read : goal.returns-clause-read
returns-clause-read c = script

pub returns-clause-not_without_its_flag : goal.returns-clause-not_without_its_flag
returns-clause-not_without_its_flag c = λ h.
    let flags : false ∷ [] ≡ true ∷ [] =
    ap (map (λ (q : Kept Asked). has_flag Flag.Symrefs q.asked)) (one_script offer_all 7 (codes "ls-refs\nsymrefs\n\n") _ _ h script) in
    cc

pub returns-clause-not_of_fewer_bytes : goal.returns-clause-not_of_fewer_bytes
returns-clause-not_of_fewer_bytes c = λ h.
    let bytes = ap (map (λ (q : Kept Asked). q.kept)) (one_script offer_all 7 (codes "ls-refs\nsymrefs\n\n") _ _ h script) in
    cc

pub returns-clause-no_request : goal.returns-clause-no_request
returns-clause-no_request c = λ h. let same = one_script offer_all 7 (codes "ls-refs\nsymrefs\n\n") _ _ h script in cc
