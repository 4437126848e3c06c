use Rattle.std.proofs.Common.{◌≡◌, ◌∙◌, ℕ, ◌+◌, List, [], ◌∷◌, ◌++◌, codes, length, ap, refl}
use Rattle.git_pkt.specs.Digits.{digits_of}
use Rattle.gitwire.specs.Buffers.{put_before}
use Rattle.gitwire.specs.Greetings.{asking, greeting_text, host_text}
use Rattle.gitwire.specs.WrittenForC.{given}
use Rattle.gitwire.proofs.GreetingParts.{parts_in_order}
use Rattle.gitwire.proofs.greetings.put_greeting.Goals as goal

pub returns : goal.returns
returns c =
    let base : List ℕ = c.args.buffer.now in
    let path : List ℕ = c.args.path.now in
    let host : List ℕ = host_text (given c.args.host.now) in
    let text : List ℕ = greeting_text (asking path c.args.host.now) in
    let head : List ℕ = c.digits.result in
    let word : List ℕ = codes "git-upload-pack " in
    let after_head = c.put_next-digits_end.ensures.adds [] base refl refl in
    let after_word = c.put_next-word_end.ensures.adds head base after_head.0 after_head.1 in
    let after_path = c.put_next-path_end.ensures.adds (head ++ word) base after_word.0 after_word.1 in
    let after_command = c.put_next-command_end.ensures.adds ((head ++ word) ++ path) base after_path.0 after_path.1 in
    let after_host = c.put_host-host_end.ensures.adds (((head ++ word) ++ path) ++ 0 ∷ []) base after_command.0 after_command.1 in
    let after_all = c.put_next.ensures.adds ((((head ++ word) ++ path) ++ 0 ∷ []) ++ host) base after_host.0 after_host.1 in
    let digits : head ≡ digits_of (length text + 4) = c.digits.ensures ∙ ap (λ (n : ℕ). digits_of (n + 4)) c.requires.exact in
    after_all.1 ∙ ap (λ (l : List ℕ). put_before l base) (parts_in_order head path host ∙ ap (λ (l : List ℕ). l ++ text) digits)
