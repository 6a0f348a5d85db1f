mod FirstFields
mod Firsts
