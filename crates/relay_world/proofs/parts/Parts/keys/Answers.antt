use Rattle.std.proofs.Common.{rules, sym, subst}
use Rattle.std.proofs.lemmas.Fn.{filter_same}
use Rattle.relay_results.specs.Documents.{document_of}
use Rattle.relay_world.specs.State.{is_written, AreKeysOf}
use Rattle.relay_world.proofs.Written.{written_keys}
use Rattle.relay_world.proofs.parts.Parts.keys.Goals as goal

pub returns : goal.returns
returns c =
    let kept = filter_same _ (λ key. is_written c.args.self.now (document_of key)) _ (λ x b f k. search rules) _ _ c.retain.ensures.filtered in
    subst (AreKeysOf c.args.self.now) (sym kept) (written_keys c.args.self.now c.in_ok-keys.keys.items (rw (← c.self.view_is) c.in_ok-keys.ensures))
