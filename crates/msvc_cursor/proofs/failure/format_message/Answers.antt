use Rattle.std.proofs.Common.{rules, ◌≡◌, ◌∙◌, ◌-◌, IfOk, subst, length, string_bytes}
use Rattle.msvc_cursor.specs.Errors.{IsMessageAt}
use Rattle.msvc_cursor.proofs.Messages.{message-at}
use Rattle.msvc_cursor.proofs.failure.format_message.Goals as goal

pub returns : goal.returns
returns g c =
    let at : c.saturating_sub.result ≡ length c.args.text.now - c.args.left = search rules in
    subst (λ n. IfOk c.format_rejection.result
    (λ said. IsMessageAt c.args.message c.args.text.now n (string_bytes said))) at
    (message-at string_bytes c.args.message c.args.text.now c.as_str.result.now c.saturating_sub.result
    c.format_rejection.result (c.as_str.ensures ∙ c.in_ok-message.ensures)
    c.format_rejection.ensures)
