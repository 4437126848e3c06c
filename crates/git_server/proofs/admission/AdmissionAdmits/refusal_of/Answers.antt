use Rattle.std.proofs.Common.{◌≡◌, refl}
use Rattle.git_msg.specs.declared.words.TextWord.{TextWord}
use Rattle.git_server.specs.Repository.{Repository, found_ref}
use Rattle.git_server.proofs.FoundReference.{found_is}
use Rattle.git_server.proofs.admission.AdmissionAdmits.refusal_of.Goals as goal

pub returns-in-Some-clause-value : goal.returns-in-Some-clause-value
returns-in-Some-clause-value g c =
    let repo : Repository = (g.R.Repo.state c.args.self.now.repo.now).answers in
    let found : found_ref repo.refs c.in-Text-WantRef-default.name.now ≡ c.find.result =
    found_is repo.refs c.in-Text-WantRef-default.name.now c.find.result (g.met.R.Repo.sound c.args.self.now.repo.now).rising c.find.ensures in
    let word : c.in-Text-WantRef-default.field-0 ≡ TextWord.WantRef = rw c.in-Text-WantRef-default.is at c.in-Text-WantRef-default.field-0-is in
    rw (c.in-Text-WantRef-default.is, word, found, c.in-Some.is) refl

pub returns-in-None-clause-value : goal.returns-in-None-clause-value
returns-in-None-clause-value g c =
    let repo : Repository = (g.R.Repo.state c.args.self.now.repo.now).answers in
    let found : found_ref repo.refs c.in-Text-WantRef-default.name.now ≡ c.find.result =
    found_is repo.refs c.in-Text-WantRef-default.name.now c.find.result (g.met.R.Repo.sound c.args.self.now.repo.now).rising c.find.ensures in
    let word : c.in-Text-WantRef-default.field-0 ≡ TextWord.WantRef = rw c.in-Text-WantRef-default.is at c.in-Text-WantRef-default.field-0-is in
    rw (c.in-Text-WantRef-default.is, word, found, c.in-None.is) refl
