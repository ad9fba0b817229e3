mod parts
mod texts
mod tagged
mod whole
