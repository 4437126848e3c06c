use Rattle.std.proofs.Common.{rules, ◌≡◌, ◌++◌, ap, append_assoc, ◌∙◌, List, ℕ, codes}
use Rattle.git_msg.proofs.references.append_target.Goals as goal

joined : (held middle all word name : List ℕ) → middle ≡ held ++ word → all ≡ middle ++ name → all ≡ held ++ (word ++ name)
joined held middle all word name p q = q ∙ ap (λ (xs : List ℕ). xs ++ name) p ∙ append_assoc held word name

pub returns-in-Some : goal.returns-in-Some
returns-in-Some c =
    rw c.in-Some.is (joined c.args.hold.now.items c.append.new.hold.items c.append-in-Some.new.hold.items (codes " symref-target:") c.in-Some.name.now
    (search rules) c.append-in-Some.ensures.appended)
