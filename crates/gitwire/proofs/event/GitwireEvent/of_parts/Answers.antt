use Rattle.std.proofs.Common.{arith, ◌≡◌, [], ◌++◌, length, refl, ap, length-append}
use Rattle.git_client.specs.EventParts.{parts_shown}
use Rattle.gitwire.specs.EventAnswers.{digits_shown, text_shown}
use Rattle.gitwire.specs.Buffers.{put_before}
use Rattle.gitwire.proofs.FilledBuffers.{filled_more}
use Rattle.gitwire.proofs.event.GitwireEvent.of_parts.Goals as goal

pub returns-clause-buffer : goal.returns-clause-buffer
returns-clause-buffer c =
    let p = parts_shown c.args.parts in
    let base = c.args.buffer.now in
    let id = digits_shown p.id in
    let name = text_shown p.name in
    let text = text_shown p.text in
    let peeled = digits_shown p.peeled in
    let id_buffer = c.put_digits-id_end.new.buffer in
    let name_buffer = c.put_at-name_end.new.slice in
    let text_buffer = c.put_at-text_end.new.slice in
    let id_end : c.put_digits-id_end.result ≡ length id = omega (arith, c.put_digits-id_end.ensures.end) in
    let name_end : c.put_at-name_end.result ≡ length (id ++ name) =
    omega (arith, id_end, c.put_at-name_end.ensures.end, ap length c.bytes_of.ensures, length-append id name) in
    let text_end : c.put_at-text_end.result ≡ length (id ++ name ++ text) =
    omega (arith, name_end, c.put_at-text_end.ensures.end, ap length c.bytes_of-2.ensures, length-append (id ++ name) text) in
    let one : id_buffer ≡ put_before id base = filled_more base [] id base id_buffer 0 refl refl c.put_digits-id_end.ensures.placed in
    let two : name_buffer ≡ put_before (id ++ name) base =
    filled_more base id name id_buffer name_buffer c.put_digits-id_end.result id_end one (rw (← c.bytes_of.ensures) c.put_at-name_end.ensures.placed) in
    let three : text_buffer ≡ put_before (id ++ name ++ text) base =
    filled_more base (id ++ name) text name_buffer text_buffer c.put_at-name_end.result name_end two
    (rw (← c.bytes_of-2.ensures) c.put_at-text_end.ensures.placed) in
    filled_more base (id ++ name ++ text) peeled text_buffer c.put_digits-end.new.buffer c.put_at-text_end.result text_end three c.put_digits-end.ensures.placed
