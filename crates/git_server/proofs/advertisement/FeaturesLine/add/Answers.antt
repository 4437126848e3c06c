use Rattle.std.proofs.Common.{refl, ap, ◌∙◌, List, ℕ, ◌++◌}
use Rattle.git_server.proofs.FeatureLines.{names_more}
use Rattle.git_server.proofs.advertisement.FeaturesLine.add.Goals as goal

pub returns-clause-names : goal.returns-clause-names
returns-clause-names c =
    λ key features names.
    let before : List ℕ = c.args.self.now.text.bytes in
    let text = c.push_str-2.ensures.bytes
    ∙ ap (λ (l : List ℕ). l ++ c.args.feature.now) (c.push_str.ensures.bytes ∙ ap (λ (l : List ℕ). before ++ l) c.separator.ensures.text) in
    rw c.if-not-offered.false (names_more c.args.self.now _ c.args.feature.now key features names text refl)
