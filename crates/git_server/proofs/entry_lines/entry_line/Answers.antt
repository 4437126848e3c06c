use Rattle.std.specs.Option.{option_copied}
use Rattle.git_server.proofs.Formats.{shown_has_format}
use Rattle.git_server.proofs.entry_lines.entry_line.Goals as goal

pub returns-clause-writable : goal.returns-clause-writable
returns-clause-writable g c = record {
  name = c.name.ensures.name;
  target = c.shown_target.ensures.name;
  one_format = (
    c.args.entry.now.id.format,
    shown_has_format c.args.entry.now c.id.result c.name.result.now (option_copied c.shown_target.result) c.peel.result c.shown_peeled.result
        c.requires c.id.ensures c.shown_peeled.ensures,
  );
}
