use Rattle.std.proofs.Common.{arith, ◌≡◌, ◌⊎◌, inl, inr, ℕ, ◌+◌, ◌<◌, ◌≤◌, List, length, drop, Option, Some, None, Bor, MatchOption, ap, ◌∙◌, subst}
use Rattle.std.specs.List.{slice_range}
use Rattle.git_pkt.specs.Packets.{text_of}
use Rattle.git_pkt.specs.declared.fault.Kind.TheVariants.{RemoteError, RemoteFatal}
use Rattle.git_pkt.proofs.Chunks.{left_of}
use Rattle.git_client.specs.Machine.Client.{is_announced}
use Rattle.git_client.proofs.Held.{HoldsMessage, holds_message, error_announced, fatal_announced}
use Rattle.git_client.proofs.client.Client.message.Goals as goal

-- what the look-up of all bytes after the first finds
after_first : (bytes : List ℕ) (found : Option (Bor (List ℕ)))
    → MatchOption found ((length bytes < 1) ⊎ (length bytes < length bytes)) (λ x. (1 ≤ length bytes) × (length bytes ≤ length bytes)
    × (x.now ≡ slice_range bytes 1 (length bytes)) × (length x.now + 1 ≡ length bytes))
    → MatchOption found (length bytes < 1) (λ x. x.now ≡ drop 1 bytes)
after_first bytes None (inl short) = short
after_first bytes None (inr never) = absurd (omega arith)
after_first bytes (Some x) h = h.2 ∙ left_of bytes 1 h.0

pub returns-in-RemoteError : goal.returns-in-RemoteError
returns-in-RemoteError g c =
    λ t h v.
    let holds : HoldsMessage t h c.args.self.now RemoteError =
    subst (HoldsMessage t h c.args.self.now) c.in-RemoteError.is
    (holds_message t h c.args.self.now c.in-Failed.fault v c.in-Failed.is (ap is_announced c.in-RemoteError.is)) in
    error_announced t h c.args.self.now c.text.result.now c.error_message.result holds (c.text.ensures ∙ ap text_of c.payload.ensures)
    c.error_message.ensures.message

pub returns-in-RemoteFatal : goal.returns-in-RemoteFatal
returns-in-RemoteFatal g c =
    λ t h v.
    let holds : HoldsMessage t h c.args.self.now RemoteFatal =
    subst (HoldsMessage t h c.args.self.now) c.in-RemoteFatal.is
    (holds_message t h c.args.self.now c.in-Failed.fault v c.in-Failed.is (ap is_announced c.in-RemoteFatal.is)) in
    let payload = c.payload-in-RemoteFatal in
    fatal_announced t h c.args.self.now payload.result.now c.get.result holds payload.ensures
    (after_first payload.result.now c.get.result c.get.ensures.lookup.0)
