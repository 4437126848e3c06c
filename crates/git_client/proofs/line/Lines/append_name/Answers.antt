use Rattle.std.proofs.Common.{◌≡◌, ◌≤◌, ◌+◌, ◌-◌, ◌∙◌, ◌++◌, ℕ, List, length, take, ap, ap₂, arith, length-take-le}
use Rattle.std.proofs.lemmas.Slice.{take-put_mid}
use Rattle.git_names.specs.ObjectFormat.{digits_of}
use Rattle.git_client.proofs.Writing.{digits_within, take_placed}
use Rattle.git_client.proofs.line.Lines.append_name.Goals as goal

pub returns-clause-name : goal.returns-clause-name
returns-clause-name c =
    let at = c.self.inside.count in
    let size = c.self.told in
    let front : length (take at c.self.inside.bytes) ≡ at = length-take-le at c.self.inside.bytes (omega (arith, c.self.invariant)) in
    let space : at + 64 ≤ 2048 = omega (arith, front, ap length c.self.view_is, c.requires) in
    let within = digits_within c.args.id.now.format in
    let few : c.digits.result ≡ digits_of c.args.id.now.format = cc in
    let placed = take-put_mid at (at + 64 - at) c.self.inside.bytes c.copy_from_slice.new.self (at + 64) (omega arith) (omega arith) in
    take_placed c.self.inside.bytes c.copy_from_slice.new.self _ at 64 c.digits.result placed front (omega arith)
    ∙ ap₂ (λ (l m : List ℕ). l ++ m) c.self.view_is (ap₂ take few c.copy_from_slice.ensures.after ∙ c.hex.ensures.text)
