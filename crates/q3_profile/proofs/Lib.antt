mod Documents
mod Items
mod Rules
