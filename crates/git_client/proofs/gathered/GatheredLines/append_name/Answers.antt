use Rattle.std.proofs.Common.{◌≡◌, ◌+◌, ◌∙◌, ◌++◌, ℕ, List, length, take, ap, ap₂, subst, arith, length-take-le}
use Rattle.git_names.specs.ObjectFormat.{digits_of}
use Rattle.git_client.proofs.Writing.{digits_within, take_placed}
use Rattle.git_client.proofs.gathered.GatheredLines.append_name.Goals as goal

pub returns-clause-put : goal.returns-clause-put
returns-clause-put c =
    let at = c.self.inside.count in
    let front : length (take at c.self.inside.bytes) ≡ at = length-take-le at c.self.inside.bytes (omega (arith, c.self.invariant)) in
    let within = digits_within c.args.id.now.format in
    let few : c.digits.result ≡ digits_of c.args.id.now.format = cc in
    let end : c.put_at.result ≡ at + 64 = omega (arith, c.put_at.ensures.end) in
    let placed = subst (λ (n : ℕ). take n c.put_at.new.slice ≡ take at c.self.inside.bytes ++ c.hex.result) end c.put_at.ensures.put in
    take_placed c.self.inside.bytes _ c.put_at.new.slice at 64 c.digits.result placed front (omega (arith, few, within))
    ∙ ap₂ (λ (l m : List ℕ). l ++ m) c.self.view_is (ap (λ (n : ℕ). take n c.hex.result) few ∙ c.hex.ensures.text)
